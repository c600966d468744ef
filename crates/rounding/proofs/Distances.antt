-- Distances of a fraction from two values, on one side of zero and with their signs: which is less,
-- and when they are equal. Nothing here is about floats. Assumes nothing.
use mathlib.Core.Path.{◌≡◌, refl, ap}
use mathlib.Core.Logic.{◌⊎◌, inl, inr}
use mathlib.Core.Bool.{Bool, true, false}
use Prim.Native.Nat.{ℕ, ◌+◌, ◌-◌, ◌*◌, ◌≤◌, ◌<◌}
use native.Mathlib.Nat.{le_of_lt, mul-le-mul_right, mul-lt-mul_of_pos_right, add-mul, le_antisymm}
use native.Mathlib.Omega.{arith}
use Rattle.rounding.specs.Nearest.{apart}
use Rattle.rounding.proofs.NumberOrders.{lt-or-ge}

-- ---- a / den, and the values R and Y, on one side of zero
pub no-nearer : (a den R Y : ℕ) → (R < Y → a * 2 ≤ (R + Y) * den) × (Y < R → (R + Y) * den ≤ a * 2)
    → a - R * den + (R * den - a) ≤ a - Y * den + (Y * den - a)
no-nearer a den R Y c =
    let s : (R + Y) * den ≡ R * den + Y * den = add-mul R Y den in
    elim (lt-or-ge R Y) [
      | inl h ↦
          let m : R * den ≤ Y * den = mul-le-mul_right den (le_of_lt h) in
          omega (arith, c.0 h)
      | inr g ↦ elim (lt-or-ge Y R) [
        | inl h ↦
            let m : Y * den ≤ R * den = mul-le-mul_right den g in
            omega (arith, c.1 h)
        | inr h ↦
            let e : R * den ≡ Y * den = ap (λ (z : ℕ). z * den) (le_antisymm h g) in
            omega arith
      ]
    ]

-- If both are as near and not the same, the fraction is their middle.
pub as-near : (a den R Y : ℕ) → 0 < den → (R ≡ Y → ⊥) → a - R * den + (R * den - a) ≡ a - Y * den + (Y * den - a)
    → a * 2 ≡ (R + Y) * den
as-near a den R Y D ne e =
    let s : (R + Y) * den ≡ R * den + Y * den = add-mul R Y den in
    elim (lt-or-ge R Y) [
      | inl h ↦
          let m : R * den < Y * den = mul-lt-mul_of_pos_right h D in
          omega arith
      | inr g ↦ elim (lt-or-ge Y R) [
        | inl h ↦
            let m : Y * den < R * den = mul-lt-mul_of_pos_right h D in
            omega arith
        | inr h ↦ absurd (ne (le_antisymm h g))
      ]
    ]

-- ---- the same, with their signs
pub apart-le : (s t : Bool) (a r y : ℕ) → a - r + (r - a) ≤ a - y + (y - a) → a - r + (r - a) ≤ a
    → apart s a s r ≤ apart s a t y
apart-le true true a r y h k = h
apart-le false false a r y h k = h
apart-le true false a r y h k = omega arith
apart-le false true a r y h k = omega arith

pub apart-eq : (s t : Bool) (a r y : ℕ) → apart s a s r ≡ apart s a t y
    → ((t ≡ s) × (a - r + (r - a) ≡ a - y + (y - a))) ⊎ (a - r + (r - a) ≡ a + y)
apart-eq true true a r y e = inl (refl, e)
apart-eq false false a r y e = inl (refl, e)
apart-eq true false a r y e = inr e
apart-eq false true a r y e = inr e

pub apart-like : (s : Bool) (a r y : ℕ) → apart s a s r ≡ apart s a s y → a - r + (r - a) ≡ a - y + (y - a)
apart-like true a r y e = e
apart-like false a r y e = e
