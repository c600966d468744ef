-- The three numbers of absent taps that the code computes at once are those counted tap by tap. The proof goes by how
-- many numbers of a run lie below a bound. Assumes nothing.
use mathlib.Core.Path.{◌≡◌, refl, sym, ◌∙◌, ap}
use mathlib.Core.Bool.{Bool, true, false, cond}
use mathlib.Core.List.{List}
use Prim.Native.Nat.{ℕ, zero, suc, ◌+◌, ◌-◌, ◌≤◌, ◌<◌, ◌%◌, min}
use native.Mathlib.Omega.{arith}
use borrow.Author.Tests.{ltb-true, ltb-false, leb-true, leb-false}
use lib.Dec.{leb, ltb}
use lib.IntN.{ℤ, pos, negsuc}
use lib.ListN.{length, get_or, length-replicate}
use lib.Ieee.{Float, nan}
use Rattle.ring.specs.Length.{zeros}
use Rattle.ring.specs.Taps.{held, unwritten, ahead, overwritten, pick, tap_at}
use Rattle.absent_taps.specs.declared.Absent.{Absent}
use Rattle.absent_taps.specs.declared.counting.Start.{Start}
use Rattle.absent_taps.specs.Absent.{absent_of, counted, absent_from, first_tap, absent_at}
use Rattle.absent_taps.specs.Inner.{start_of, below_of, missing_of}

pub same : {s t : Absent} → s.unwritten ≡ t.unwritten → s.ahead ≡ t.ahead → s.overwritten ≡ t.overwritten → s ≡ t
same {s} {t} p q r = go s.unwritten s.ahead s.overwritten p q r
  where
    go : (x y z : ℕ) → x ≡ t.unwritten → y ≡ t.ahead → z ≡ t.overwritten → absent_of x y z ≡ t
    go x y z p q r = rw (p, q, r)

-- A minimum that the next number does not change, and one that grows with it.
level : (n x : ℕ) → x ≤ n → min n x ≡ min (suc n) x
level n x h = omega arith

top : (n x : ℕ) → n ≤ x → min n x ≡ n
top n x h = omega arith

-- X numbers lie below the oldest that is kept, Y below 0, Z below the count; n is the next number.
module _ (n X Y Z : ℕ) where
  stays-ahead : suc n ≤ Z → n - min n Z ≡ suc n - min (suc n) Z
  stays-ahead h = rw (top n Z (omega arith), top (suc n) Z h) (omega arith)

  one-ahead : Z ≤ n → n - min n Z + 1 ≡ suc n - min (suc n) Z
  one-ahead h = rw (level n Z h) (omega arith)

  stays-gone : X ≤ n → Y ≤ n → min n X - min n Y ≡ min (suc n) X - min (suc n) Y
  stays-gone h k = rw (level n X h, level n Y k)

  one-gone : suc n ≤ X → Y ≤ n → min n X - min n Y + 1 ≡ min (suc n) X - min (suc n) Y
  one-gone h k = rw (level n Y k, top n X (omega arith), top (suc n) X h) (omega arith)

  none-gone : suc n ≤ Y → Y ≤ X → min n X - min n Y ≡ min (suc n) X - min (suc n) Y
  none-gone h k =
      rw (top n X (omega arith), top n Y (omega arith), top (suc n) X (omega arith), top (suc n) Y h) (omega arith)

-- One number more of a run with `low` numbers below 0, then on from `from`.
module _ (xs : List Float) (count low from n : ℕ) where
  abbrev run : ℕ → Absent
  run m = missing_of (length xs) count (record { low = low; from = from }) m

  abbrev X : ℕ
  X = low + (count - length xs - from)

  abbrev Y : ℕ
  Y = low + (0 - from)

  abbrev Z : ℕ
  Z = low + (count - from)

  -- The next number is k, which is not below 0.
  module _ (k : ℕ) (is : low + k ≡ from + n) (past : low ≤ n) where
    from_zero : (a b : Bool) → ltb k count ≡ a → leb count (k + length xs) ≡ b
        → counted (pick a (pick b (held (get_or xs (k % length xs) nan)) overwritten) ahead) (run n) ≡ run (suc n)
    from_zero true true p q =
        let l : k < count = ltb-true k count p in
        let m : count ≤ k + length xs = leb-true count (k + length xs) q in
        same (level n Y (omega arith)) (stays-ahead n X Y Z (omega arith))
        (stays-gone n X Y Z (omega arith) (omega arith))
    from_zero true false p q =
        let l : k < count = ltb-true k count p in
        let m : k + length xs < count = leb-false count (k + length xs) q in
        same (level n Y (omega arith)) (stays-ahead n X Y Z (omega arith))
        (one-gone n X Y Z (omega arith) (omega arith))
    from_zero false b p q =
        let l : count ≤ k = ltb-false k count p in
        same (level n Y (omega arith)) (one-ahead n X Y Z (omega arith))
        (stays-gone n X Y Z (omega arith) (omega arith))

  -- The next number is still below 0.
  below-zero : n < low → from ≡ 0 → counted unwritten (run n) ≡ run (suc n)
  below-zero h z =
      same (omega arith) (stays-ahead n X Y Z (omega arith)) (none-gone n X Y Z (omega arith) (omega arith))

from-pos : (xs : List Float) (count i n : ℕ)
    → absent_from xs count (pos i) n ≡ missing_of (length xs) count (start_of (pos i)) n
unfolding absent_from
from-pos xs count i zero = same (omega arith) (omega arith) (omega arith)
from-pos xs count i (suc n) =
    rw (from-pos xs count i n)
    (from_zero xs count 0 i n (i + n) (omega arith) (omega arith) (ltb (i + n) count)
    (leb count (i + n + length xs)) refl refl)

from-neg : (xs : List Float) (count j n : ℕ)
    → absent_from xs count (negsuc j) n ≡ missing_of (length xs) count (start_of (negsuc j)) n
unfolding absent_from
from-neg xs count j zero = same (omega arith) (omega arith) (omega arith)
from-neg xs count j (suc n) = rw (from-neg xs count j n) (go (ltb n (suc j)) refl)
  where
    go : (a : Bool) → ltb n (suc j) ≡ a
        → counted (tap_at xs count (cond a (negsuc (suc j - suc n)) (pos (n - suc j))))
        (missing_of (length xs) count (start_of (negsuc j)) n)
        ≡ missing_of (length xs) count (start_of (negsuc j)) (suc n)
    go true p =
        let l : n < suc j = ltb-true n (suc j) p in below-zero xs count (j + 1) 0 n (omega arith) refl
    go false p =
        let l : suc j ≤ n = ltb-false n (suc j) p in
        from_zero xs count (j + 1) 0 n (n - suc j) (omega arith) (omega arith) (ltb (n - suc j) count)
        (leb count (n - suc j + length xs)) refl refl

pub at_once : (xs : List Float) (count : ℕ) (z : ℤ) (n : ℕ)
    → absent_from xs count z n ≡ missing_of (length xs) count (start_of z) n
at_once xs count (pos i) n = from-pos xs count i n
at_once xs count (negsuc j) n = from-neg xs count j n

-- The same at a position, from what the code holds: s from `first`, u, g and w from `below`, the rest from `less`.
pub missing-is : (len count : ℕ) (p : Float) (n : ℕ) (s : Start) {oldest u g w a o : ℕ} → s ≡ start_of (first_tap p n)
    → oldest ≡ count - len → u ≡ below_of s.low s.from 0 n → g ≡ below_of s.low s.from oldest n
    → w ≡ below_of s.low s.from count n → a ≡ n - w → o ≡ g - u
    → absent_of u a o ≡ absent_at (zeros len) count p n
missing-is len count p n s e k u g w a o =
    rw (o, a, u, g, w, k)
    (ap (λ (l : ℕ). missing_of l count s n) (sym (length-replicate len _))
    ∙ ap (λ (t : Start). missing_of (length (zeros len)) count t n) e
    ∙ sym (at_once (zeros len) count (first_tap p n) n))
