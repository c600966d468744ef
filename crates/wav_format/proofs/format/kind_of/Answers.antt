-- `wav_format::format::kind_of` meets its contract, by its three cases. Assumes nothing.
use borrow.Author.Tests.{eq-eqb, ne_eqb}
use Rattle.wav_format.proofs.format.kind_of.Goals as goal

pub returns-then-tag-eq3 : goal.returns-then-tag-eq3
returns-then-tag-eq3 c = simp (eq-eqb _ _ c.if-tag-eq3.true)

pub returns-then-bits-eq16 : goal.returns-then-bits-eq16
returns-then-bits-eq16 c = simp (ne_eqb _ _ c.if-tag-eq3.false, eq-eqb _ _ c.if-bits-eq16.true)

pub returns : goal.returns
returns c = simp (ne_eqb _ _ c.if-tag-eq3.false, ne_eqb _ _ c.if-bits-eq16.false)
