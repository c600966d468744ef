-- A number compared with a whole number that is given as n less another, and a whole number turned into a float and
-- back. Assumes nothing.
use Rattle.std.proofs.Common.{◌≡◌, ℕ, suc, ◌+◌, ◌-◌, ◌*◌, ◌^◌, ◌<◌, ◌≤◌, Bool, true, false, cond, not, T, ltb, ℤ, pos}
use Rattle.std.proofs.Common.{negsuc, nat_abs, sym, refl, ap, ◌∙◌, true≢false, add-mul, lt_of_mul-lt-mul_right}
use Rattle.std.proofs.Common.{mul-lt-mul_of_pos_right, arith, ltb-false, ltb-true}
use lib.IntN.{sub_ℕ}
use lib.Signed.{non_neg, mag}
use lib.Ieee.{Float, nan, inf, fin, binary64, lt, of_int, in_signed, to_signed}
use lib.Ieee.Back.{positive_back, negative_back}
use lib.Ieee.Exact.{HasValue}
use lib.Ieee.Positive.{den, den_pos}
use lib.Ieee.Scale.{finite}
use Rattle.magnitude.proofs.WholeFloats.{whole-value}
use Rattle.interval.proofs.Signed.{ring, gain, loss, strictly, of-strictly}
use Rattle.integer_part.proofs.FloorInside.{in-float}
use Rattle.integer_part.proofs.Floors.{pos_part, neg_part}

-- ---- a whole number and its parts
pub parts : (z : ℤ) → (pos_part z ≤ nat_abs z) × (neg_part z ≤ nat_abs z)
parts (pos n) = (omega arith, omega arith)
parts (negsuc n) = (omega arith, omega arith)

pub parts-less : (a b : ℕ) → pos_part (sub_ℕ a b) + b ≡ a + neg_part (sub_ℕ a b)
parts-less a b = go (ltb a b) refl
  where
    go : (t : Bool) → ltb a b ≡ t
        → pos_part (cond t (negsuc (b - suc a)) (pos (a - b))) + b
        ≡ a + neg_part (cond t (negsuc (b - suc a)) (pos (a - b)))
    go true h = omega (arith, ltb-true a b h)
    go false h = omega (arith, ltb-false a b h)

abs-less : (a b c : ℕ) → a ≤ c → b ≤ c → nat_abs (sub_ℕ a b) ≤ c
abs-less a b c A B = go (ltb a b) refl
  where
    go : (t : Bool) → ltb a b ≡ t → nat_abs (cond t (negsuc (b - suc a)) (pos (a - b))) ≤ c
    go true h = omega (arith, ltb-true a b h)
    go false h = omega arith

-- ---- x compared with a whole number, where (g - l) / d is x
record Whole (y : Float) (z : ℤ) : Type 0 where
  number : T (finite y)
  gains : gain y ≡ pos_part z * den y
  loses : loss y ≡ neg_part z * den y

whole : (y : Float) (z : ℤ) → HasValue y (not (non_neg z)) (nat_abs z) 1 → Whole y z
whole nan z v = absurd v
whole (inf s) z v = absurd v
whole (fin true n d) (pos k) v = absurd (true≢false v.0)
whole (fin false n d) (pos k) v = record { number = tt; gains = omega (arith, v.1); loses = omega arith }
whole (fin true n d) (negsuc k) v = record { number = tt; gains = omega arith; loses = omega (arith, v.1) }
whole (fin false n d) (negsuc k) v = absurd (true≢false (sym v.0))

-- x lies below z, over the denominators d and c, where z is n less big.
module _ (big g l d g' l' c p q n : ℕ) (G : g' ≡ p * c) (L : l' ≡ q * c) (e : p + big ≡ n + q) (C : 0 < c) where
  scaled : p * d + big * d ≡ n * d + q * d
  scaled = sym (add-mul p big d) ∙ ap (λ (z : ℕ). z * d) e ∙ add-mul n q d

  across : g * c + l' * d < g' * d + l * c → g + big * d < n * d + l
  across h =
      let k : g + q * d < p * d + l = lt_of_mul-lt-mul_right c (simp ring (simp ring at (rw (G, L) at h))) in
      omega (arith, scaled)

  back : g + big * d < n * d + l → g * c + l' * d < g' * d + l * c
  back h =
      let k : g + q * d < p * d + l = omega (arith, scaled) in
      rw (G, L) (simp ring (simp ring at (mul-lt-mul_of_pos_right k C)))

module _ (big : ℕ) (B : big ≤ 2 ^ 53) (x : Float) (ok : T (finite x)) (n : ℕ) (N : n ≤ 2 ^ 53) where
  abbrev z : ℤ
  z = sub_ℕ n big

  abbrev y : Float
  y = of_int binary64 z

  beside : Whole y z
  beside = whole y z (whole-value binary64 z (abs-less n big (2 ^ 53) N B))

  pub below : T (lt x y) → gain x + big * den x < n * den x + loss x
  below h =
      across big (gain x) (loss x) (den x) (gain y) (loss y) (den y) (pos_part z) (neg_part z) n beside.gains
      beside.loses (parts-less n big) (den_pos y) (strictly x y ok beside.number h)

  pub is_below : gain x + big * den x < n * den x + loss x → T (lt x y)
  is_below h =
      of-strictly x y ok beside.number
      (back big (gain x) (loss x) (den x) (gain y) (loss y) (den y) (pos_part z) (neg_part z) n beside.gains
      beside.loses (parts-less n big) (den_pos y) h)

-- ---- a whole number as a float, cast back
pub cast-back : (z : ℤ) → mag z ≤ 2 ^ 52
    → T (in_signed binary64 63 (of_int binary64 z)) × (to_signed 63 (of_int binary64 z) ≡ z)
cast-back (pos n) h = positive_back binary64 63 n (in-float (pos n) h) (omega arith)
cast-back (negsuc k) h = negative_back binary64 63 k (in-float (negsuc k) h) (omega arith)
