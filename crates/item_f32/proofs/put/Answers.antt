-- `item_f32::put` meets its contract: past the ring's end a list is left as it is. Assumes nothing.
use mathlib.Core.Path.{sym}
use native.Mathlib.Omega.{arith}
use lib.Seq.{set_out}
use Rattle.item_f32.proofs.put.Goals as goal

pub returns-else-at-ring : goal.returns-else-at-ring
returns-else-at-ring c = let a = c.args in sym (set_out a.ring.now a.at a.input (omega arith))
