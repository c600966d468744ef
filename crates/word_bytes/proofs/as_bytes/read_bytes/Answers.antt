-- `word_bytes::read_bytes` meets its contract. The loop's invariant: v is the number of the bytes from k on.
-- Assumes nothing.
use mathlib.Core.Path.{◌≡◌, sym, ap}
use Prim.Native.Nat.{suc, ◌-◌, ◌^◌, ◌<◌}
use native.Mathlib.Nat.{sub_self, sub-zero}
use native.Mathlib.Omega.{arith}
use lib.Dec.{lit≤}
use lib.ListN.{length}
use lib.Seq.{drop-length}
use Rattle.word_bytes.specs.Bytes.{bytes_value}
use Rattle.word_bytes.proofs.Rows.{one_more, within, byte-read}
use Rattle.word_bytes.proofs.as_bytes.read_bytes.Goals as goal

pub loop-k-init : goal.loop-k-init
unfolding bytes_value
loop-k-init c = (rw sub_self (lit≤ tt), sym (ap bytes_value (drop-length c.args.s.now)))

pub overflow_mul-v : goal.overflow_mul-v
overflow_mul-v c =
    let h : c.loop-k.v < 256 ^ 7 = within 256 7 c.loop-k.invariant.0 (omega arith) (lit≤ tt) in
    omega arith

pub overflow_add-v : goal.overflow_add-v
overflow_add-v c =
    let l = c.loop-k in
    let h : l.v < 256 ^ 7 = within 256 7 l.invariant.0 (omega arith) (lit≤ tt) in
    omega arith

pub loop-k-preserved : goal.loop-k-preserved
loop-k-preserved c =
    let l = c.loop-k in
    let s = c.args.s.now in
    let e : length s - (l.k - 1) ≡ suc (length s - l.k) = omega arith in
    let g : suc (l.k - 1) ≡ l.k = omega arith in (
      rw e (one_more 256 (length s - l.k) l.invariant.0 (omega arith)),
      rw (byte-read s (l.k - 1) (omega arith), g, ← l.invariant.1) (omega arith),
    )

pub returns : goal.returns
returns c =
    let z : c.loop-k.k ≡ 0 = omega arith in
    record { value = rw z at c.loop-k.invariant.1; upper_bound = rw (z, sub-zero) at c.loop-k.invariant.0 }
