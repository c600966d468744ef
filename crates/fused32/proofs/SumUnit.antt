-- The unit to which the sum v of two f64 is rounded as an f64. Either nothing is rounded, or that unit divides the
-- larger of the two, or it is twice the larger's own unit, because the sum has a digit more. Assumes nothing.
use Rattle.std.proofs.Common.{◌≡◌, ℕ, suc, ◌+◌, ◌-◌, ◌*◌, ◌^◌, ◌<◌, ◌≤◌, ◌⊎◌, sym, ap, ◌∙◌, subst, inl, inr, le_trans}
use Rattle.std.proofs.Common.{le_of_eq, mul-le-mul_right, mul_assoc, suc-mul, eq-zero-or-pos, eq-or-lt_of_le, arith}
use Rattle.std.proofs.Common.{pow_pos, pow-add}
use native.Mathlib.Nat.{two-pow-succ}
use lib.Ieee.{Float, binary64}
use lib.Ieee.Digits.{back}
use Rattle.fused32.specs.Parts.{Short, amount}
use Rattle.rounding.proofs.NumberOrders.{lt-or-ge, pow_lt_back}
use Rattle.rounding.proofs.WholeUnits.{exact-multiple, exact-short, near, places, v-ge}

-- P * 2 ^ a in units of 2 ^ j.
pub whole : (P a j : ℕ) → j ≤ a → P * 2 ^ a ≡ P * 2 ^ (a - j) * 2 ^ j
whole P a j h =
    ap (λ (z : ℕ). P * 2 ^ z) (sym (back a j h))
    ∙ ap (λ (z : ℕ). P * z) (pow-add 2 (a - j) j)
    ∙ sym (mul_assoc P (2 ^ (a - j)) (2 ^ j))

module _ {x y : Float} (p : Short x) (q : Short y) where
  abbrev X : ℕ
  X = amount p

  -- The larger's own unit, of which it has fewer than 2 ^ 53.
  abbrev t : ℕ
  t = 2 ^ p.places

  pub room : X + t ≤ 2 ^ 53 * t
  room = le_trans (le_of_eq (sym (suc-mul p.digits t))) (mul-le-mul_right t p.few)

  module _ (v : ℕ) (le : v ≤ X + X) (mult : (j : ℕ) → j ≤ p.places → j ≤ q.places → (w : ℕ) × (v ≡ w * 2 ^ j)) where
    abbrev j : ℕ
    j = places binary64 v

    abbrev u : ℕ
    u = 2 ^ j

    above : 0 < j → j ≤ suc p.places
    above h =
        let s = p.places in
        let a : 2 ^ 52 * u ≤ X + X = le_trans (v-ge binary64 v h) le in
        let b : 0 < t = pow_pos s in
        let c : 2 ^ (52 + j) < 2 ^ (54 + s) =
        subst (λ (z : ℕ). z < 2 ^ (54 + s)) (sym (pow-add 2 52 j))
        (subst (λ (z : ℕ). 2 ^ 52 * u < z) (sym (pow-add 2 54 s)) (omega (arith, room))) in
        omega (arith, pow_lt_back (52 + j) (54 + s) c)

    abbrev pub Divides : Type 0
    Divides = (w : ℕ) × (X ≡ w * u) × (q.places < j)

    pub which : (near binary64 v * u ≡ v) ⊎ (Divides ⊎ (j ≡ suc p.places))
    which = elim (eq-zero-or-pos j) [
      | inl e ↦ inl (exact-short binary64 v e)
      | inr h ↦ elim (eq-or-lt_of_le (above h)) [
        | inl e ↦ inr (inr e)
        | inr l ↦ within (omega arith) (lt-or-ge q.places j)
      ]
    ]
      where
        within : j ≤ p.places → (q.places < j) ⊎ (j ≤ q.places)
            → (near binary64 v * u ≡ v) ⊎ (Divides ⊎ (j ≡ suc p.places))
        within a (inl l) = inr (inl (p.digits * 2 ^ (p.places - j), whole p.digits p.places j a, l))
        within a (inr g) = let m = mult j a g in inl (exact-multiple binary64 v m.0 m.1)

    -- The sum has one digit more than the larger.
    pub twice : j ≡ suc p.places → (u ≡ t + t) × (X + t ≤ v)
    twice e =
        let d : u ≡ t + t = ap (λ (z : ℕ). 2 ^ z) e ∙ two-pow-succ p.places in
        let h : 0 < j = omega arith in
        (d, omega (arith, v-ge binary64 v h, room))
