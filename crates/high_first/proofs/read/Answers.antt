-- `high_first::read` meets its contract. The loop's invariant: v is the number of the bytes so far. Assumes nothing.
use mathlib.Core.Path.{◌≡◌, refl, ap, ◌∙◌}
use Prim.Native.Nat.{◌^◌, ◌<◌}
use native.Mathlib.Numerals.{add-one}
use native.Mathlib.Omega.{arith}
use lib.Dec.{lit≤}
use lib.ListN.{length}
use lib.Seq.{take_all}
use Rattle.word_bytes.specs.Bytes.{bytes_value}
use Rattle.word_bytes.proofs.Rows.{one_more, within}
use Rattle.high_first.specs.High.{big_value}
use Rattle.high_first.proofs.Rows.{byte-read}
use Rattle.high_first.proofs.read.Goals as goal

pub loop-x-init : goal.loop-x-init
unfolding bytes_value
loop-x-init c = (lit≤ tt, refl)

pub overflow_mul-v : goal.overflow_mul-v
overflow_mul-v c =
    let h : c.loop-x.v < 256 ^ 7 = within 256 7 c.loop-x.invariant.0 (omega arith) (lit≤ tt) in
    omega arith

pub overflow_add-v : goal.overflow_add-v
overflow_add-v c =
    let l = c.loop-x in
    let h : l.v < 256 ^ 7 = within 256 7 l.invariant.0 (omega arith) (lit≤ tt) in
    omega arith

pub loop-x-preserved : goal.loop-x-preserved
loop-x-preserved c =
    let l = c.loop-x in
    let s = c.args.s.now in (
      rw add-one (one_more 256 l.x-index l.invariant.0 (omega arith)),
      rw (add-one, byte-read s l.x-index (omega arith), ← l.invariant.1) (omega arith),
    )

pub returns : goal.returns
returns c =
    let l = c.loop-x in
    let s = c.args.s.now in
    let z : l.x-index ≡ length s = omega arith in
    record {
      value = l.invariant.1 ∙ ap big_value (take_all l.x-index s (omega arith));
      upper_bound = rw z at l.invariant.0;
    }
