-- `render_blocks::render_block`: the first k samples of the block are rendered. Assumes nothing.
use Prim.Native.Nat.{◌*◌}
use Rattle.render_samples.specs.Samples.{held_of}
use Rattle.render_blocks.proofs.Turns.{Half}
use Rattle.render_blocks.proofs.render_block.Given as goal

abbrev pub invariant-loop-k : goal.invariant-loop-k
invariant-loop-k l =
    Half l.table (held_of l.initial.s l.initial.ring) l.initial.block (held_of l.s l.ring) l.block (l.k * 4)
