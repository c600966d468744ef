-- `word_bytes::low_first_u32` meets its contract, by those of the part and of the loop. Assumes nothing.
use mathlib.Core.Path.{◌∙◌, ap}
use Prim.Native.Nat.{◌^◌, ◌<◌}
use native.Mathlib.Omega.{arith}
use lib.Dec.{lit≤}
use Rattle.word_bytes.specs.Bytes.{bytes_value}
use Rattle.word_bytes.proofs.Rows.{within}
use Rattle.word_bytes.proofs.as_bytes.low_first_u32.Goals as goal

pub read_bytes-requires : goal.read_bytes-requires
read_bytes-requires c = omega arith

pub overflow_cast-result : goal.overflow_cast-result
overflow_cast-result c =
    let h : c.read_bytes.result < 256 ^ 4 =
    within 256 4 c.read_bytes.ensures.upper_bound c.part.ensures.result_len_bound (lit≤ tt) in
    omega arith

pub returns : goal.returns
returns c = c.read_bytes.ensures.value ∙ ap bytes_value c.part.ensures.result_value
