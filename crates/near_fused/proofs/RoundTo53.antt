-- Whole numbers rounded to 53 digits: how far that moves them, which it does not change, and that nothing above a
-- number of 53 digits is rounded below it. Units are 2 ^ -1074. Assumes nothing.
use mathlib.Core.Path.{◌≡◌, sym, ap, ◌∙◌}
use mathlib.Core.Logic.{inl, inr}
use Prim.Native.Nat.{ℕ, suc, ◌+◌, ◌-◌, ◌*◌, ◌^◌, ◌≤◌, ◌<◌}
use native.Mathlib.Nat.{le_trans, le_of_eq, lt_of_le_of_lt, one-mul, mul_assoc, mul-le-mul_right}
use native.Mathlib.Nat.{mul-lt-mul_of_pos_right, lt_of_mul-lt-mul_right, pow-suc, eq-or-lt_of_le}
use native.Mathlib.Omega.{arith}
use lib.Pow.{pow-add, pow_pos, pow_mono}
use lib.Ieee.{binary64}
use lib.Ieee.Digits.{back}
use Rattle.rounding.proofs.NearestWhole.{closest-ge}
use Rattle.rounding.proofs.NumberOrders.{lt-or-ge, sub-mul}
use Rattle.rounding.proofs.WholeUnits.{exact-multiple, near, near-ge, near_le, places, v-ge}
use Rattle.rounding.proofs.WithinHalfDivisor.{closest-near}

-- D has no more digits than an f64.
abbrev pub Few : ℕ → Type 0
Few D = (q : ℕ) × (i : ℕ) × (D ≡ q * 2 ^ i) × (q < 2 ^ 53)

-- The number v rounded to 53 digits.
abbrev pub rounded : ℕ → ℕ
rounded v = near binary64 v * 2 ^ places binary64 v

-- P * 2 ^ a in units of 2 ^ j.
pub whole : (P a j : ℕ) → j ≤ a → P * 2 ^ a ≡ P * 2 ^ (a - j) * 2 ^ j
whole P a j h =
    ap (λ (z : ℕ). P * 2 ^ z) (sym (back a j h))
    ∙ ap (λ (z : ℕ). P * z) (pow-add 2 (a - j) j)
    ∙ sym (mul_assoc P (2 ^ (a - j)) (2 ^ j))

pub lower : (x y z : ℕ) → x * z < suc y * z → x ≤ y
lower x y z h =
    let l : x < suc y = lt_of_mul-lt-mul_right z h in
    omega arith

pub few-of : (d a : ℕ) → d ≤ 2 ^ 53 → Few (d * 2 ^ a)
few-of d a h = elim (eq-or-lt_of_le h) [
  | inl e ↦ (1, 53 + a, ap (λ (z : ℕ). z * 2 ^ a) e ∙ sym (pow-add 2 53 a) ∙ sym (one-mul (2 ^ (53 + a))), omega arith)
  | inr l ↦ (d, a, ap (λ (z : ℕ). d * 2 ^ z) (omega arith), l)
]

pub near-lo : (v : ℕ) → rounded v * 2 ≤ v * 2 + 2 ^ places binary64 v
near-lo v = (closest-near v (2 ^ places binary64 v) (pow_pos (places binary64 v))).0

pub near-hi : (v : ℕ) → v * 2 ≤ rounded v * 2 + 2 ^ places binary64 v
near-hi v = (closest-near v (2 ^ places binary64 v) (pow_pos (places binary64 v))).1

-- ---- a number of few digits is not changed, and nothing above it is rounded below it
pub few-stays : (d i : ℕ) → d < 2 ^ 53 → rounded (d * 2 ^ i) ≡ d * 2 ^ i
few-stays d i D =
    let v = d * 2 ^ i in
    let j = places binary64 v in
    elim (lt-or-ge i j) [
      | inl l ↦
          let c : 2 ^ i * 2 ≤ 2 ^ j = le_trans (le_of_eq (sym (pow-suc 2 i))) (pow_mono l) in
          let g : 2 ^ 52 * 2 ^ j ≤ v = v-ge binary64 v (omega arith) in
          let h : v < 2 ^ 53 * 2 ^ i = mul-lt-mul_of_pos_right D (pow_pos i) in
          absurd (omega arith)
      | inr g ↦ exact-multiple binary64 v (d * 2 ^ (i - j)) (whole d i j g)
    ]

pub few-below : (m a v : ℕ) → m < 2 ^ 53 → m * 2 ^ a ≤ v → m * 2 ^ a ≤ rounded v
few-below m a v M h =
    let j = places binary64 v in
    elim (lt-or-ge a j) [
      | inl l ↦
          let c : 2 ^ a * 2 ≤ 2 ^ j = le_trans (le_of_eq (sym (pow-suc 2 a))) (pow_mono l) in
          let g : 2 ^ 52 * 2 ^ j ≤ rounded v = mul-le-mul_right (2 ^ j) (near-ge binary64 v (omega arith)) in
          let k : m * 2 ^ a < 2 ^ 53 * 2 ^ a = mul-lt-mul_of_pos_right M (pow_pos a) in
          under (m * 2 ^ a) (2 ^ a) (2 ^ j) (rounded v) c g k
      | inr g ↦ le_trans (le_of_eq (whole m a j g)) (mul-le-mul_right (2 ^ j)
          (closest-ge v (2 ^ j) (m * 2 ^ (a - j)) (pow_pos j) (le_trans (le_of_eq (sym (whole m a j g))) h)))
    ]
  where
    under : (x t u w : ℕ) → t * 2 ≤ u → 2 ^ 52 * u ≤ w → x < 2 ^ 53 * t → x ≤ w
    under x t u w a b c = omega arith

pub few-rounded : (v : ℕ) → Few (rounded v)
few-rounded v = few-of (near binary64 v) (places binary64 v) (near_le binary64 v)

-- The difference Y - X, if it is less than both.
pub few-difference : (m a n b : ℕ) → m < 2 ^ 53 → n < 2 ^ 53 → n * 2 ^ b - m * 2 ^ a < m * 2 ^ a → m * 2 ^ a ≤ n * 2 ^ b
    → Few (n * 2 ^ b - m * 2 ^ a)
few-difference m a n b M N h o = elim (lt-or-ge a b) [
  | inl l ↦
      let i : n * 2 ^ b - m * 2 ^ a ≡ (n * 2 ^ (b - a) - m) * 2 ^ a =
      ap (λ (z : ℕ). z - m * 2 ^ a) (whole n b a (omega arith)) ∙ sym (sub-mul (n * 2 ^ (b - a)) m (2 ^ a)) in (
        n * 2 ^ (b - a) - m,
        a,
        i,
        lt_of_mul-lt-mul_right (2 ^ a)
            (lt_of_le_of_lt (le_of_eq (sym i)) (omega (arith, mul-lt-mul_of_pos_right M (pow_pos a)))),
      )
  | inr g ↦
      let i : n * 2 ^ b - m * 2 ^ a ≡ (n - m * 2 ^ (a - b)) * 2 ^ b =
      ap (λ (z : ℕ). n * 2 ^ b - z) (whole m a b g) ∙ sym (sub-mul n (m * 2 ^ (a - b)) (2 ^ b)) in (
        n - m * 2 ^ (a - b),
        b,
        i,
        lt_of_mul-lt-mul_right (2 ^ b)
            (lt_of_le_of_lt (le_of_eq (sym i)) (omega (arith, mul-lt-mul_of_pos_right N (pow_pos b)))),
      )
]
