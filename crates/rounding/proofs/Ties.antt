-- A tie in IEEE 754's words: where another value of the format lies as near to the fraction as the result does,
-- the result's last digit is even. The other value is then a whole number of the result's unit too,
-- since what lies below the least number of as many digits is farther away. Assumes nothing.
use mathlib.Core.Path.{◌≡◌, sym, ap, ◌∙◌, subst}
use mathlib.Core.Logic.{inl, inr}
use mathlib.Core.Bool.{Bool}
use Prim.Native.Nat.{ℕ, suc, ◌+◌, ◌*◌, ◌/◌, ◌%◌, ◌^◌, ◌≤◌, ◌<◌, compare, Ordering}
use native.Mathlib.Nat.{le_of_eq, lt_of_le_of_lt, mul-pos, mul-le-mul_right, mul-lt-mul_of_pos_right, add-mul, suc-mul}
use native.Mathlib.Nat.{div-add-mod', mod-lt}
use native.Mathlib.Omega.{arith}
use lib.Arith.{lt_of_le-ne}
use lib.Dec.{T}
use lib.Pow.{pow_pos}
use lib.Ieee.{Float, Format, round, nearest, fits, prec, low, hid}
use lib.Ieee.Exact.{HasValue}
use lib.Ieee.Nearest.{closest}
use lib.Ieee.Order.{drop, kept}
use lib.Ieee.Scale.{grid}
use Rattle.rounding.specs.Nearest.{LastEven}
use Rattle.rounding.proofs.NumberOrders.{Cmp, cmp, lt-or-ge}
use Rattle.rounding.proofs.DroppedDigits.{prec-pos, kept-ge, kept-le}
use Rattle.rounding.proofs.Grid.{few-digits, rounded-grid}
use Rattle.rounding.proofs.Nearest.{on-grid, least, both}

-- v of the divisor are as near to a as the nearest whole number of them is.
closest-tie : (a d v : ℕ) → 0 < d → (closest a d ≡ v → ⊥) → a * 2 ≡ (closest a d + v) * d → closest a d % 2 ≡ 0
closest-tie a d v D =
    subst (λ (z : ℕ). (closest a d ≡ v → ⊥) → z * 2 ≡ (closest a d + v) * d → closest a d % 2 ≡ 0) (div-add-mod' a d)
    (go (a / d) (a % d) (compare (a % d * 2) d) (cmp (a % d * 2) d) (mod-lt a D))
  where
    go : (q r : ℕ) (o : Ordering) → Cmp o (r * 2) d → r < d → (nearest q o ≡ v → ⊥)
        → (q * d + r) * 2 ≡ (nearest q o + v) * d → nearest q o % 2 ≡ 0
    go q r Ordering.lt c l n e =
        let s : (q + v) * d ≡ q * d + v * d = add-mul q v d in
        elim (lt-or-ge v q) [
          | inl h ↦ let m : suc v * d ≤ q * d = mul-le-mul_right d h in
              let t : suc v * d ≡ v * d + d = suc-mul v d in
              absurd (omega arith)
          | inr h ↦ let m : suc q * d ≤ v * d = mul-le-mul_right d (lt_of_le-ne h n) in
              let t : suc q * d ≡ q * d + d = suc-mul q d in
              absurd (omega arith)
        ]
    go q r Ordering.eq c l n e = omega arith
    go q r Ordering.gt c l n e =
        let s : (suc q + v) * d ≡ suc q * d + v * d = add-mul (suc q) v d in
        let t : suc q * d ≡ q * d + d = suc-mul q d in
        elim (lt-or-ge v (suc q)) [
          | inl h ↦ let m : suc v * d ≤ suc q * d = mul-le-mul_right d h in
              let w : suc v * d ≡ v * d + d = suc-mul v d in
              absurd (omega arith)
          | inr h ↦ let m : suc (suc q) * d ≤ v * d = mul-le-mul_right d (lt_of_le-ne h n) in
              let w : suc (suc q) * d ≡ suc q * d + d = suc-mul (suc q) d in
              absurd (omega arith)
        ]

module _ (f : Format) (num den : ℕ) (D : 0 < den) where
  abbrev n : ℕ
  n = num * 2 ^ low f

  abbrev k : ℕ
  k = drop (prec f) n den

  abbrev q : ℕ
  q = kept (prec f) n den

  -- The fraction is the middle of the result and of Y.
  pub tied : (Y y j : ℕ) → Y ≡ y * 2 ^ j → y < 2 ^ prec f → n * 2 ≡ (grid f num den + Y) * den
      → (v : ℕ) × (Y ≡ v * 2 ^ k)
  tied Y y j e h tie = elim (on-grid f num den D y j h) [
    | inl z ↦ (z.0, e ∙ z.1)
    | inr z ↦
        let l : Y < hid f * 2 ^ k = lt_of_le_of_lt (le_of_eq e) z.1 in
        let m : (q * 2 ^ k + Y) * den < (q * 2 ^ k + hid f * 2 ^ k) * den = mul-lt-mul_of_pos_right (omega arith) D in
        let b = both f num den D (hid f) in
        let g = least f num den D z.0 in
        absurd (omega arith)
  ]

  pub grid-even : (Y y j : ℕ) → Y ≡ y * 2 ^ j → y < 2 ^ prec f → (grid f num den ≡ Y → ⊥)
      → n * 2 ≡ (grid f num den + Y) * den → q % 2 ≡ 0
  grid-even Y y j e h ne tie =
      let (v, w) = tied Y y j e h tie in
      closest-tie n (den * 2 ^ k) v (mul-pos D (pow_pos k)) (λ c. ne (ap (λ (x : ℕ). x * 2 ^ k) c ∙ sym w))
      (tie ∙ ap (λ (x : ℕ). (grid f num den + x) * den) w ∙ both f num den D v)

-- Counted in the smallest value the result is R and another value is Y, whatever their signs, and the fraction is their
-- middle.
pub round-even : (f : Format) (s t : Bool) (num den R Y : ℕ) (y : Float) → 0 < den
    → HasValue (round f s num den) s R (2 ^ low f) → T (fits f y) → HasValue y t Y (2 ^ low f)
    → (R ≡ Y → ⊥) → num * 2 ^ low f * 2 ≡ (R + Y) * den → LastEven f R
round-even f s t num den R Y y D r held v ne tie =
    let z = few-digits f y t Y held v in
    let e : R ≡ grid f num den = rounded-grid f s num den R r in
    record {
      q = q f num den D;
      k = k f num den D;
      is = e;
      few = kept-le (prec f) (num * 2 ^ low f) den;
      full = kept-ge (prec f) (num * 2 ^ low f) den (prec-pos f);
      even =
          grid-even f num den D Y z.0 z.1 z.2 z.3 (λ c. ne (e ∙ c)) (tie ∙ ap (λ (x : ℕ). (x + Y) * den) e);
    }
