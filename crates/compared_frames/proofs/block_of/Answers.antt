-- `compared_frames::block_of` meets its contract, by whether a frame is left. Assumes nothing.
use borrow.Author.Tests.{eq-eqb, ne_eqb}
use Rattle.compared_frames.specs.Compared.{block_of}
use Rattle.compared_frames.proofs.block_of.Goals as goal

pub returns-then-left-eq0 : goal.returns-then-left-eq0
unfolding block_of
returns-then-left-eq0 c = rw (eq-eqb c.args.left 0 c.if-left-eq0.true)

pub returns-else-left-eq0 : goal.returns-else-left-eq0
unfolding block_of
returns-else-left-eq0 c = rw (ne_eqb c.args.left 0 c.if-left-eq0.false) c.fewer.ensures
