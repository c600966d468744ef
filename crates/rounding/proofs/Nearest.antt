-- `round` in IEEE 754's words: no value of the format lies nearer to the fraction. In units of the smallest value the
-- fraction is n / den and the result q * 2 ^ k; any other value is a multiple of 2 ^ k too, or lies below the least
-- number of as many digits as q. Assumes nothing.
use mathlib.Core.Path.{◌≡◌, sym, ap, ◌∙◌}
use mathlib.Core.Logic.{◌⊎◌, inl, inr, dite}
use mathlib.Core.Bool.{Bool}
use Prim.Native.Nat.{ℕ, suc, ◌+◌, ◌-◌, ◌*◌, ◌/◌, ◌^◌, ◌≤◌, ◌<◌}
use native.Mathlib.Nat.{le_trans, le_of_eq, lt_of_lt_of_le, lt_of_le_of_lt, mul_comm, mul_assoc, mul-pos}
use native.Mathlib.Nat.{mul-le-mul_right, lt_of_mul-lt-mul_right, add-mul, suc-mul, le-div_iff_mul-le, eq-or-lt_of_le}
use native.Mathlib.Decide.{dec_le}
use native.Mathlib.Omega.{arith}
use lib.Dec.{T}
use lib.Pow.{pow-add, pow_pos, pow_mono, shl_lt}
use lib.Ieee.{Float, Format, round, fits, prec, low, hid}
use lib.Ieee.Digits.{back, size_reaches}
use lib.Ieee.Exact.{HasValue}
use lib.Ieee.Order.{drop, kept}
use lib.Ieee.Scale.{grid}
use Rattle.rounding.proofs.DroppedDigits.{prec-pos, kept-ge}
use Rattle.rounding.proofs.Grid.{few-digits, rounded-grid}
use Rattle.rounding.proofs.WithinHalfDivisor.{closest-near}

-- q of the unit u is as near to n as a whole number of units can be; v of them lie on the far side of the middle.
beside : (n u q v : ℕ) → (q * u * 2 ≤ n * 2 + u) × (n * 2 ≤ q * u * 2 + u)
    → (q < v → n * 2 ≤ (q + v) * u) × (v < q → (q + v) * u ≤ n * 2)
beside n u q v c =
    let s : (q + v) * u ≡ q * u + v * u = add-mul q v u in
    let a : suc q * u ≡ q * u + u = suc-mul q u in
    let b : suc v * u ≡ v * u + u = suc-mul v u in (
      (λ (h : q < v).
          let l : suc q * u ≤ v * u = mul-le-mul_right u h in
          omega arith),
      (λ (h : v < q).
          let l : suc v * u ≤ q * u = mul-le-mul_right u h in
          omega arith),
    )

module _ (f : Format) (num den : ℕ) (D : 0 < den) where
  abbrev n : ℕ
  n = num * 2 ^ low f

  abbrev k : ℕ
  k = drop (prec f) n den

  abbrev q : ℕ
  q = kept (prec f) n den

  near : (v : ℕ) → (q < v → n * 2 ≤ (q + v) * (den * 2 ^ k)) × (v < q → (q + v) * (den * 2 ^ k) ≤ n * 2)
  near v = beside n (den * 2 ^ k) q v (closest-near n (den * 2 ^ k) (mul-pos D (pow_pos k)))

  pub both : (v : ℕ) → (q * 2 ^ k + v * 2 ^ k) * den ≡ (q + v) * (den * 2 ^ k)
  both v =
      ap (λ (x : ℕ). x * den) (sym (add-mul q v (2 ^ k)))
      ∙ mul_assoc (q + v) (2 ^ k) den
      ∙ ap (λ (x : ℕ). (q + v) * x) (mul_comm (2 ^ k) den)

  -- The values below the least number of as many digits are no nearer.
  pub least : 0 < k → (q + hid f) * (den * 2 ^ k) ≤ n * 2
  least K = elim (eq-or-lt_of_le (kept-ge (prec f) n den (prec-pos f) K)) [
    | inl e ↦
        let P = prec-pos f in
        let h : hid f * 2 ^ k ≤ n / den =
        le_trans (le_of_eq (sym (pow-add 2 (prec f - 1) k)))
        (size_reaches (n / den) (prec f - 1 + k) (omega arith)) in
        let r : hid f * (den * 2 ^ k) ≤ n =
        le_trans (le_of_eq (ap (λ (x : ℕ). hid f * x) (mul_comm den (2 ^ k)) ∙ sym (mul_assoc (hid f) (2 ^ k) den)))
        ((le-div_iff_mul-le D).0 h) in
        let s : (q + hid f) * (den * 2 ^ k) ≡ hid f * (den * 2 ^ k) + hid f * (den * 2 ^ k) =
        ap (λ (x : ℕ). (x + hid f) * (den * 2 ^ k)) (sym e) ∙ add-mul (hid f) (hid f) (den * 2 ^ k) in
        omega arith
    | inr l ↦ (near (hid f)).1 l
  ]

  pub on-grid : (y j : ℕ) → y < 2 ^ prec f
      → ((v : ℕ) × (y * 2 ^ j ≡ v * 2 ^ k)) ⊎ ((0 < k) × (y * 2 ^ j < hid f * 2 ^ k))
  on-grid y j h =
      let P = prec-pos f in
      dite (dec_le k j)
      (λ l. inl (
        y * 2 ^ (j - k),
        ap (λ (x : ℕ). y * 2 ^ x) (sym (back j k l))
            ∙ ap (λ (x : ℕ). y * x) (pow-add 2 (j - k) k)
            ∙ sym (mul_assoc y (2 ^ (j - k)) (2 ^ k)),
      ))
      (λ g. inr (
        omega arith,
        lt_of_lt_of_le (shl_lt (prec f) j h)
            (le_trans (pow_mono {j = prec f - 1 + k} (omega arith)) (le_of_eq (pow-add 2 (prec f - 1) k))),
      ))

  pub grid-nearest : (Y y j : ℕ) → Y ≡ y * 2 ^ j → y < 2 ^ prec f
      → (grid f num den < Y → n * 2 ≤ (grid f num den + Y) * den)
      × (Y < grid f num den → (grid f num den + Y) * den ≤ n * 2)
  grid-nearest Y y j e h = elim (on-grid y j h) [
    | inl z ↦
        let v = z.0 in
        let w : Y ≡ v * 2 ^ k = e ∙ z.1 in
        rw w (
          (λ l. le_trans ((near v).0 (lt_of_mul-lt-mul_right (2 ^ k) l)) (le_of_eq (sym (both v)))),
          (λ l. le_trans (le_of_eq (both v)) ((near v).1 (lt_of_mul-lt-mul_right (2 ^ k) l))),
        )
    | inr z ↦
        let l : Y < hid f * 2 ^ k = lt_of_le_of_lt (le_of_eq e) z.1 in
        let g : hid f * 2 ^ k ≤ q * 2 ^ k = mul-le-mul_right (2 ^ k) (kept-ge (prec f) n den (prec-pos f) z.0) in (
          (λ (m : q * 2 ^ k < Y). absurd (omega arith)),
          (λ _. le_trans (mul-le-mul_right den (omega arith)) (le_trans (le_of_eq (both (hid f))) (least z.0))),
        )
  ]

-- Counted in the smallest value the result is R and any other value is Y, whatever their signs. The fraction lies on
-- R's side of their middle.
pub round-nearest : (f : Format) (s t : Bool) (num den R Y : ℕ) (y : Float) → 0 < den
    → HasValue (round f s num den) s R (2 ^ low f) → T (fits f y) → HasValue y t Y (2 ^ low f)
    → (R < Y → num * 2 ^ low f * 2 ≤ (R + Y) * den) × (Y < R → (R + Y) * den ≤ num * 2 ^ low f * 2)
round-nearest f s t num den R Y y D r held v =
    let z = few-digits f y t Y held v in
    rw (rounded-grid f s num den R r) (grid-nearest f num den D Y z.0 z.1 z.2 z.3)
