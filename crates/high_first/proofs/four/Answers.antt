-- `high_first::four` meets its contract, by those of the part and of the loop. Assumes nothing.
use mathlib.Core.Path.{◌∙◌, ap}
use Prim.Native.Nat.{◌^◌, ◌<◌}
use native.Mathlib.Omega.{arith}
use lib.Dec.{lit≤}
use Rattle.word_bytes.proofs.Rows.{within}
use Rattle.high_first.specs.High.{big_value}
use Rattle.high_first.proofs.four.Goals as goal

few : (c : goal.After-read) → c.read.result < 256 ^ 4
few c = within 256 4 c.read.ensures.upper_bound c.part.ensures.result_len_bound (lit≤ tt)

pub returns : goal.returns
returns c = c.read.ensures.value ∙ ap big_value c.part.ensures.result_value

pub read-requires : goal.read-requires
read-requires c = omega arith

pub overflow_cast-result : goal.overflow_cast-result
overflow_cast-result c = omega (arith, few c)
