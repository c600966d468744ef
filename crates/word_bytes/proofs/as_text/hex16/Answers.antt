-- `word_bytes::hex16` meets its contract. The loop's invariant: the k digits that are left of v, followed by those
-- written from k on, are the sixteen digits of n. Assumes nothing.
use borrow.Author.Rules.{rules}
use mathlib.Core.Path.{◌≡◌, sym}
use mathlib.Core.List.{append-nil}
use Prim.Native.Nat.{suc, ◌-◌}
use native.Mathlib.Omega.{arith}
use lib.ListN.{length-set}
use Rattle.word_bytes.specs.Hex.{hex_digits}
use Rattle.word_bytes.proofs.Rows.{hex-written}
use Rattle.word_bytes.proofs.as_text.hex16.Goals as goal

pub loop-k-init : goal.loop-k-init
loop-k-init c = (search rules, rw append-nil)

pub loop-k-preserved : goal.loop-k-preserved
loop-k-preserved c =
    let k = c.loop-k.k in
    let e : suc (k - 1) ≡ k = omega arith in
    let g = hex-written c.loop-k.out (k - 1) c.loop-k.v (omega arith) in
    (simp length-set (omega arith), rw (c.glyph.ensures, ← g, e) c.loop-k.invariant.1)

pub returns : goal.returns
unfolding hex_digits
returns c =
    let z : c.loop-k.k ≡ 0 = omega arith in
    sym (rw z at c.loop-k.invariant.1)
