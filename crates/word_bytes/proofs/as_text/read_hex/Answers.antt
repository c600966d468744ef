-- `word_bytes::read_hex` meets its contract. The loop's invariant: v has as many digits as have been read, and v
-- followed by what is left is the whole number. Assumes nothing.
use mathlib.Core.Path.{◌≡◌, sym, ◌∙◌}
use Prim.Native.Nat.{◌^◌, ◌<◌}
use native.Mathlib.Numerals.{add-one}
use native.Mathlib.Omega.{arith}
use lib.Dec.{lit≤}
use lib.ListN.{length}
use lib.Seq.{drop-length}
use Rattle.word_bytes.specs.Hex.{hex_value}
use Rattle.word_bytes.proofs.Rows.{one_more, within, hex-read}
use Rattle.word_bytes.proofs.as_text.read_hex.Goals as goal

pub overflow_mul-v : goal.overflow_mul-v
overflow_mul-v c =
    let h : c.loop-c.v < 16 ^ 15 = within 16 15 c.loop-c.invariant.0 (omega arith) (lit≤ tt) in
    omega arith

pub overflow_add-v : goal.overflow_add-v
overflow_add-v c =
    let l = c.loop-c in
    let h : l.v < 16 ^ 15 = within 16 15 l.invariant.0 (omega arith) (lit≤ tt) in
    omega arith

pub loop-c-preserved : goal.loop-c-preserved
loop-c-preserved c =
    let l = c.loop-c in (
      rw add-one (one_more 16 l.c-index l.invariant.0 c.digit_of.ensures.upper_bound),
      rw (add-one, c.digit_of.ensures.value) (l.invariant.1 ∙ hex-read _ l.c-index l.v (omega arith)),
    )

pub returns : goal.returns
unfolding hex_value
returns c =
    let e : c.loop-c.c-index ≡ length c.args.s.now = omega arith in
    sym (rw (e, drop-length) at c.loop-c.invariant.1)
