-- Outside ±2 ^ 52 an f64 is whole, an infinity or a NaN, so its floor is what the cast gives. A value with digits
-- behind the point is a number below 2 ^ 53 divided by at least 2. Assumes nothing.
use Rattle.std.proofs.Common.{◌≡◌, ℕ, zero, suc, ◌*◌, ◌%◌, ◌^◌, ◌<◌, Bool, true, false, ◌&&◌, T, eqb, ltb, leb, pos}
use Rattle.std.proofs.Common.{negsuc, refl, subst, zero-le, add-zero, arith, ltb→lt, pow_pos}
use native.Mathlib.Nat.{two-pow-succ}
use lib.Ieee.{Float, nan, inf, fin, binary64, le, fits, to_signed}
use lib.Ieee.Fits.{and_i, and_l, and_r}
use Rattle.magnitude.specs.Bounds.{AtMost}
use Rattle.magnitude.proofs.OrderAndBounds.{at-most-le, at-most-ge}
use Rattle.integer_part.specs.Parts.{floor_of}

inside : (x : Float) → (le (fin true 1 (pos 52)) x && le x (fin false 1 (pos 52))) ≡ false → AtMost (2 ^ 52) x → ⊥
inside x out h =
    subst T out
    (and_i (le (fin true 1 (pos 52)) x) (le x (fin false 1 (pos 52)))
    (at-most-ge (2 ^ 52) x (fin true 1 (pos 52)) (refl, refl) h)
    (at-most-le (2 ^ 52) x (fin false 1 (pos 52)) (refl, refl) h))

-- A value with digits behind the point is at most 2 ^ 52.
pub placed : (s : Bool) (m k : ℕ) → T (fits binary64 (fin s m (negsuc k))) → AtMost (2 ^ 52) (fin s m (negsuc k))
unfolding fits
placed s zero k h = zero-le
placed s (suc m) k h =
    let odd = eqb (suc m % 2) 1 in
    let short = ltb (suc m) (2 ^ 53) in
    let fine = leb (2 ^ suc k) (2 ^ 1074) in
    let few : suc m < 2 ^ 53 =
    ltb→lt (suc m) (2 ^ 53)
    (and_r odd short (and_l (odd && short) fine
    (and_l (odd && short && fine) (ltb (suc m * 1) (2 ^ 1024 * 2 ^ suc k)) h))) in
    omega (arith, two-pow-succ k, pow_pos k)

pub beyond : (x : Float) → T (fits binary64 x) → (le (fin true 1 (pos 52)) x && le x (fin false 1 (pos 52))) ≡ false
    → to_signed 63 x ≡ floor_of x
unfolding to_signed floor_of
beyond nan h out = refl
beyond (inf s) h out = refl
beyond (fin true m (pos k)) h out = rw (add-zero (m * 2 ^ k))
beyond (fin false m (pos k)) h out = refl
beyond (fin true m (negsuc k)) h out = absurd (inside (fin true m (negsuc k)) out (placed true m k h))
beyond (fin false m (negsuc k)) h out = absurd (inside (fin false m (negsuc k)) out (placed false m k h))
