-- A finite value by any fraction that it equals, and when a value fits a format: it has few digits, counted in smallest
-- values. Assumes nothing.
use mathlib.Core.Path.{◌≡◌, refl, sym, ap, ◌∙◌}
use mathlib.Core.Bool.{Bool, not, ◌&&◌}
use Prim.Native.Nat.{ℕ, zero, suc, ◌+◌, ◌-◌, ◌*◌, ◌%◌, ◌^◌, ◌≤◌, ◌<◌}
use native.Mathlib.Nat.{le_trans, le_of_eq, lt_of_lt_of_le, lt_of_le_of_lt, mul-one, one-mul, mul_assoc, mul_right_comm}
use native.Mathlib.Nat.{mul-pos, mul-le-mul_right, mul-lt-mul_of_pos_right, lt_of_mul-lt-mul_right, zero-mul}
use native.Mathlib.Nat.{eq_of_mul-eq-mul_right}
use lib.IntN.{ℤ, pos, negsuc}
use lib.Dec.{T, leb, ltb, eqb, ltb→lt, leb→le, eqb→eq}
use lib.Pow.{pow-add, pow_pos}
use lib.Ieee.{Float, nan, inf, fin, Format, up, down, fits, prec, emax, low, neg, is_nan}
use lib.Ieee.Digits.{back}
use lib.Ieee.Fits.{down_pos, up_pos, and_l, and_r}
use lib.Ieee.Exact.{HasValue}
use lib.Ieee.Scale.{finite}
use Rattle.rounding.proofs.NumberOrders.{pow_le_back}

pub rescale : (x : Float) (s : Bool) (a c a' c' : ℕ) → 0 < c → a * c' ≡ a' * c → HasValue x s a c → HasValue x s a' c'
rescale nan s a c a' c' p h v = v
rescale (inf t) s a c a' c' p h v = v
rescale (fin t m e) s a c a' c' p h v = (
  v.0,
  eq_of_mul-eq-mul_right c p (m * up e * c') (a' * down e)
      (mul_right_comm (m * up e) c' c
      ∙ ap (λ (x : ℕ). x * c') v.1
      ∙ mul_right_comm a (down e) c'
      ∙ ap (λ (x : ℕ). x * down e) h
      ∙ mul_right_comm a' c (down e)),
)

pub neg_value : (x : Float) (s : Bool) (A L : ℕ) → HasValue x s A L → HasValue (neg x) (not s) A L
unfolding neg
neg_value nan s A L h = absurd h
neg_value (inf u) s A L h = absurd h
neg_value (fin u m e) s A L h = (ap not h.0, h.1)

pub value-no-nan : (x : Float) (s : Bool) (A L : ℕ) → HasValue x s A L → T (not (is_nan x))
unfolding is_nan
value-no-nan nan s A L h = absurd h
value-no-nan (inf t) s A L h = absurd h
value-no-nan (fin t m e) s A L h = tt

pub value-finite : (x : Float) (s : Bool) (A L : ℕ) → HasValue x s A L → T (finite x)
value-finite nan s A L h = h
value-finite (inf t) s A L h = h
value-finite (fin t m e) s A L h = tt

-- ---- what it takes to fit
pub fits-parts : (f : Format) (s : Bool) (m : ℕ) (e : ℤ) → T (fits f (fin s m e))
    → (m < 2 ^ prec f) × (down e ≤ 2 ^ low f) × (m * up e < 2 ^ suc (emax f) * down e)
unfolding fits
fits-parts f s zero e h = (
  pow_pos (prec f),
  le_trans (le_of_eq (sym (one-mul (down e))))
      (le_trans (mul-le-mul_right (down e) (up_pos e))
      (le_trans (le_of_eq (eqb→eq (up e * down e) 1 h)) (pow_pos (low f)))),
  lt_of_le_of_lt (le_of_eq (zero-mul (up e))) (mul-pos (pow_pos (suc (emax f))) (down_pos e)),
)
fits-parts f s (suc m) e h =
    let A = eqb (suc m % 2) 1 in
    let B = ltb (suc m) (2 ^ prec f) in
    let C = leb (down e) (2 ^ low f) in
    let D = ltb (suc m * up e) (2 ^ suc (emax f) * down e) in (
      ltb→lt (suc m) (2 ^ prec f) (and_r A B (and_l (A && B) C (and_l (A && B && C) D h))),
      leb→le (down e) (2 ^ low f) (and_r (A && B) C (and_l (A && B && C) D h)),
      ltb→lt (suc m * up e) (2 ^ suc (emax f) * down e) (and_r (A && B && C) D h),
    )

-- 2 ^ e is 2 ^ i of the units 2 ^ -l.
pub place : (l : ℕ) (e : ℤ) → down e ≤ 2 ^ l → (i : ℕ) × (up e * 2 ^ l ≡ 2 ^ i * down e)
place l (pos a) h = (a + l, sym (pow-add 2 a l) ∙ sym (mul-one (2 ^ (a + l))))
place l (negsuc a) h = (
  l - suc a,
  one-mul (2 ^ l)
      ∙ ap (λ (x : ℕ). 2 ^ x) (sym (back l (suc a) (pow_le_back (suc a) l h)))
      ∙ pow-add 2 (l - suc a) (suc a),
)

-- m * 2 ^ e is m * 2 ^ i units, fewer than 2 ^ (l + emax + 1).
pub in-units : (f : Format) (m : ℕ) (e : ℤ) (i : ℕ) → up e * 2 ^ low f ≡ 2 ^ i * down e
    → m * up e < 2 ^ suc (emax f) * down e → m * 2 ^ i < 2 ^ suc (emax f) * 2 ^ low f
in-units f m e i p h =
    lt_of_mul-lt-mul_right (down e)
    (lt_of_le_of_lt (le_of_eq (mul_assoc m (2 ^ i) (down e)
    ∙ ap (λ (z : ℕ). m * z) (sym p)
    ∙ sym (mul_assoc m (up e) (2 ^ low f))))
    (lt_of_lt_of_le (mul-lt-mul_of_pos_right h (pow_pos (low f)))
    (le_of_eq (mul_right_comm (2 ^ suc (emax f)) (down e) (2 ^ low f)))))

-- A value of the format is m * 2 ^ i of its smallest values, for an m that has no more digits than the format.
pub fits-units : (f : Format) (s : Bool) (m : ℕ) (e : ℤ) → T (fits f (fin s m e))
    → (i : ℕ) × (HasValue (fin s m e) s (m * 2 ^ i) (2 ^ low f)) × (m < 2 ^ prec f)
    × (m * 2 ^ i < 2 ^ suc (emax f) * 2 ^ low f)
fits-units f s m e h =
    let x = fits-parts f s m e h in
    let i = place (low f) e x.1 in (
      i.0,
      (refl, mul_assoc m (up e) (2 ^ low f) ∙ ap (λ (z : ℕ). m * z) i.1 ∙ sym (mul_assoc m (2 ^ i.0) (down e))),
      x.0,
      in-units f m e i.0 i.1 x.2,
    )
