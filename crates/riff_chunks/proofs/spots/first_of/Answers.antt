-- `riff_chunks::spots::first_of` meets its contract, by its three cases. Assumes nothing.
use borrow.Author.Tests.{eq-eqb, ne_eqb}
use Rattle.riff_chunks.proofs.spots.first_of.Goals as goal

pub returns-then-c-id : goal.returns-then-c-id
returns-then-c-id c = simp (c.if-before.false, eq-eqb _ _ c.if-c-id.true)

pub returns : goal.returns
returns c = simp (c.if-before.false, ne_eqb _ _ c.if-c-id.false)
