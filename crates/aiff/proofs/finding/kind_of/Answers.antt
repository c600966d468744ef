-- `aiff::finding::kind_of` meets its contract, by its two cases. Assumes nothing.
use borrow.Author.Tests.{eq-eqb, ne_eqb}
use Rattle.aiff.proofs.finding.kind_of.Goals as goal

pub returns-then-bits-eq16 : goal.returns-then-bits-eq16
returns-then-bits-eq16 c = simp (eq-eqb _ _ c.if-bits-eq16.true)

pub returns : goal.returns
returns c = simp (ne_eqb _ _ c.if-bits-eq16.false)
