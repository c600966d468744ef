-- Laws of the three numbers: they depend only on the ring's length, its count and the position (W7e); below 0 a tap is
-- not yet written at any distance (W7f); together with the held taps they make up all taps that were read (W7h).
-- Assumes nothing.
use mathlib.Core.Path.{◌≡◌, refl, sym, ◌∙◌, ap}
use mathlib.Core.List.{List}
use Prim.Native.Nat.{ℕ, zero, suc, ◌+◌, ◌≤◌}
use native.Mathlib.Omega.{arith}
use lib.IntN.{ℤ, pos, negsuc, ◌+ℤ◌}
use lib.ListN.{length}
use lib.Ieee.{Float}
use Rattle.ring.specs.Taps.{Tap, held, unwritten, ahead, overwritten, tap_at}
use Rattle.absent_taps.specs.declared.Absent.{Absent}
use Rattle.absent_taps.specs.Absent.{absent_of, counted, absent_from, first_tap, absent_at, one, held_from}
use Rattle.absent_taps.specs.Inner.{start_of, missing_of}
use Rattle.absent_taps.proofs.AtOnce.{same, at_once}

-- W7e. Two rings of one length give the same numbers, whatever they hold.
pub by_length : (xs ys : List Float) → length xs ≡ length ys → (count : ℕ) (p : Float) (n : ℕ)
    → absent_at xs count p n ≡ absent_at ys count p n
by_length xs ys e count p n =
    let z = first_tap p n in
    at_once xs count z n ∙ ap (λ (len : ℕ). missing_of len count (start_of z) n) e ∙ sym (at_once ys count z n)

-- W7f. A tap below 0 is not yet written, and so are n taps that all lie below 0: none of them is overwritten.
pub below-zero : (xs : List Float) (count k : ℕ) → tap_at xs count (negsuc k) ≡ unwritten
below-zero xs count k = refl

pub all-below-zero : (xs : List Float) (count j n : ℕ) → n ≤ j + 1 → absent_from xs count (negsuc j) n ≡ absent_of n 0 0
all-below-zero xs count j n h =
    at_once xs count (negsuc j) n ∙ same (omega arith) (omega arith) (omega arith)

-- W7h. The held taps and the absent ones are all taps that were read.
abbrev sum : Absent → ℕ
sum s = s.unwritten + s.ahead + s.overwritten

one_more : (t : Tap) (s : Absent) (h n : ℕ) → h + sum s ≡ n → h + one t + sum (counted t s) ≡ suc n
one_more (held x) s h n e = omega arith
one_more unwritten s h n e = omega arith
one_more ahead s h n e = omega arith
one_more overwritten s h n e = omega arith

pub all_told : (xs : List Float) (count : ℕ) (z : ℤ) (n : ℕ)
    → held_from xs count z n + sum (absent_from xs count z n) ≡ n
unfolding held_from absent_from
all_told xs count z zero = refl
all_told xs count z (suc n) =
    one_more (tap_at xs count (z +ℤ pos n)) (absent_from xs count z n) (held_from xs count z n) n
    (all_told xs count z n)
