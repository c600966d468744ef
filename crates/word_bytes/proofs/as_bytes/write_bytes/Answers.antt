-- `word_bytes::write_bytes` meets its contract. The loop's invariant: the bytes written so far, followed by those that
-- are left of v, are the bytes of n. Assumes nothing.
use mathlib.Core.Path.{◌≡◌, sym}
use mathlib.Core.List.{append-nil}
use Prim.Native.Nat.{suc, ◌-◌}
use native.Mathlib.Numerals.{add-one}
use native.Mathlib.Nat.{sub_self, sub-zero}
use native.Mathlib.Omega.{arith}
use lib.ListN.{length, length-set}
use lib.Seq.{take-length}
use Rattle.word_bytes.specs.Bytes.{low_bytes}
use Rattle.word_bytes.proofs.Rows.{byte-written}
use Rattle.word_bytes.proofs.as_bytes.write_bytes.Goals as goal

pub loop-byte-init : goal.loop-byte-init
loop-byte-init c = rw sub-zero

pub loop-byte-preserved : goal.loop-byte-preserved
loop-byte-preserved c =
    let l = c.loop-byte in
    let i = l.byte-index in
    let e : length l.out - i ≡ suc (length l.out - suc i) = omega arith in
    simp (length-set, add-one)
    (rw (← byte-written l.out i (length l.out - suc i) l.v (omega arith), ← e) l.invariant)

pub returns : goal.returns
unfolding low_bytes
returns c =
    let l = c.loop-byte in
    let e : l.byte-index ≡ length l.out = omega arith in
    sym (rw (e, sub_self, take-length, append-nil) at l.invariant)
