-- `lib.Ieee.rem` has the sign of the dividend, whatever that of the divisor, and its size is the remainder of any two
-- fractions over one denominator. Assumes nothing.
use Rattle.std.proofs.Common.{◌≡◌, ℕ, zero, suc, ◌*◌, ◌%◌, ◌<◌, Bool, true, false, cond, not, eqb, sym, refl, ap, ◌∙◌}
use Rattle.std.proofs.Common.{zero-lt-suc, mul_assoc, mul_comm, mul-pos, mul_right_comm, arith}
use lib.Dec.{eqb-suc-zero}
use lib.Ieee.{Float, nan, inf, fin, Format, up, down, round, neg, rem}
use lib.Ieee.Fits.{up_pos, down_pos}
use lib.Ieee.Exact.{HasValue}
use lib.Ieee.Scale.{round_same}
use Rattle.rounding.proofs.SumSymmetry.{round-neg}
use Rattle.remainder.specs.Euclid.{absolute_of}
use Rattle.remainder.proofs.Division.{scale-mod}

-- ---- the signs
pub rem-absolute : (f : Format) (x y : Float) → rem f x (absolute_of y) ≡ rem f x y
unfolding rem
rem-absolute f nan y = refl
rem-absolute f (inf s) y = refl
rem-absolute f (fin s m e) nan = refl
rem-absolute f (fin s m e) (inf t) = refl
rem-absolute f (fin s m e) (fin t n d) = refl

pub rem-neg : (f : Format) (x y : Float) → rem f (neg x) y ≡ neg (rem f x y)
unfolding rem neg
rem-neg f nan y = refl
rem-neg f (inf s) y = refl
rem-neg f (fin s m e) nan = refl
rem-neg f (fin s m e) (inf t) = refl
rem-neg f (fin s m e) (fin t n d) = go (eqb n 0)
  where
    go : (b : Bool)
        → cond b nan (round f (not s) (m * up e * down d % (n * up d * down e)) (down e * down d))
        ≡ neg (cond b nan (round f s (m * up e * down d % (n * up d * down e)) (down e * down d)))
    go true = refl
    go false = round-neg f s (m * up e * down d % (n * up d * down e)) (down e * down d)

-- ---- by any fractions over one denominator
pub rem-units : (f : Format) (x y : Float) (s t : Bool) (A B L : ℕ) → 0 < L → 0 < B → HasValue x s A L
    → HasValue y t B L → rem f x y ≡ round f s (A % B) L
unfolding rem
rem-units f nan y s t A B L P Q h k = absurd h
rem-units f (inf u) y s t A B L P Q h k = absurd h
rem-units f (fin u m e) nan s t A B L P Q h k = absurd k
rem-units f (fin u m e) (inf w) s t A B L P Q h k = absurd k
rem-units f (fin u m e) (fin w zero d) s t A B L P Q h k = absurd (omega (arith, k.1, mul-pos Q (down_pos d)))
rem-units f (fin u m e) (fin w (suc n) d) s t A B L P Q h k =
    let X = m * up e * down d in
    let Y = suc n * up d * down e in
    let C = down e * down d in
    let x : X * L ≡ A * C =
    mul_right_comm (m * up e) (down d) L ∙ ap (λ (z : ℕ). z * down d) h.1 ∙ mul_assoc A (down e) (down d) in
    let y : Y * L ≡ B * C =
    mul_right_comm (suc n * up d) (down e) L
    ∙ ap (λ (z : ℕ). z * down e) k.1
    ∙ mul_assoc B (down d) (down e)
    ∙ ap (λ (z : ℕ). B * z) (mul_comm (down d) (down e)) in
    let p : 0 < Y = mul-pos (mul-pos (zero-lt-suc n) (up_pos d)) (down_pos e) in
    let q : 0 < C = mul-pos (down_pos e) (down_pos d) in
    let same : X % Y * L ≡ A % B * C =
    sym (scale-mod X Y L p P) ∙ ap (λ (z : ℕ). z % (Y * L)) x ∙ ap (λ (z : ℕ). A * C % z) y ∙ scale-mod A B C Q q in
    rw (eqb-suc-zero n) (round_same f u (X % Y) C (A % B) L q P same ∙ ap (λ (z : Bool). round f z (A % B) L) h.0)
