-- A rounding is infinite exactly from the midpoint above the largest finite value on. The first number beyond that
-- value, 2 ^ (emax + 1), has few digits, so what is said of the nearest value and of a tie holds for it too. At the
-- midpoint the largest value loses the tie, because its last digit is odd. Assumes nothing.
use mathlib.Core.Path.{◌≡◌, sym, ap, ◌∙◌, subst}
use mathlib.Core.Logic.{inl, inr}
use mathlib.Core.Bool.{Bool, false}
use Prim.Native.Nat.{ℕ, suc, ◌+◌, ◌-◌, ◌*◌, ◌%◌, ◌^◌, ◌≤◌, ◌<◌}
use native.Mathlib.Nat.{le_trans, le_of_eq, lt_of_lt_of_le, le_antisymm, one-mul, mul_assoc, mul_comm, mul_left_comm}
use native.Mathlib.Nat.{mul-le-mul_right, le_of_mul-le-mul_right, mul-lt-mul_of_pos_right, add-mul}
use native.Mathlib.Omega.{arith}
use lib.Pow.{pow_pos, pow_mono, pow-lt, ones_lt}
use lib.Ieee.{Float, inf, Format, round, prec, emax, low}
use lib.Ieee.Fits.{two, round-fits}
use lib.Ieee.Exact.{HasValue}
use lib.Ieee.Order.{drop, kept}
use lib.Ieee.Scale.{grid, overflow}
use Rattle.rounding.specs.Nearest.{largest, limit}
use Rattle.rounding.proofs.NumberOrders.{clash, lt-or-ge}
use Rattle.rounding.proofs.DroppedDigits.{prec-pos, kept-le}
use Rattle.rounding.proofs.Units.{twice_hid}
use Rattle.rounding.proofs.Grid.{overflow-units, round-over, round-value}
use Rattle.rounding.proofs.Nearest.{grid-nearest}
use Rattle.rounding.proofs.Parity.{even-reaches}
use Rattle.rounding.proofs.Ties.{grid-even}
use Rattle.rounding.proofs.Largest.{above-largest, limit-middle, place, largest-units, largest-most}

-- All digits are 1, so the last of them is odd.
last-odd : (p q k j : ℕ) → 2 ≤ p → q ≤ 2 ^ p → q * 2 ^ k ≡ (2 ^ p - 1) * 2 ^ j → q % 2 ≡ 0 → ⊥
last-odd p q k j P few e even =
    let P' : 0 < p = omega arith in
    let c : 2 ^ 2 ≤ 2 ^ p = pow_mono P in
    let o : (2 ^ p - 1) % 2 ≡ 1 = omega (arith, twice_hid p P') in
    omega (arith, even-reaches q k (2 ^ p - 1) j even o e)

-- ---- a fraction, in units of the smallest value
regroup : (a b c : ℕ) → a * b * c * 2 ≡ a * 2 * c * b
regroup a b c = simp (mul_assoc, mul_comm, mul_left_comm)

module _ (f : Format) (num den : ℕ) (D : 0 < den) where
  abbrev n : ℕ
  n = num * 2 ^ low f

  abbrev G : ℕ
  G = grid f num den

  abbrev L : ℕ
  L = largest f * 2 ^ low f

  middle : limit f * den * 2 ^ low f * 2 ≡ (L + overflow f) * den
  middle =
      let l = 2 ^ low f in
      regroup (limit f) den l
      ∙ ap (λ (z : ℕ). z * l * den) (limit-middle f)
      ∙ ap (λ (z : ℕ). z * den)
      (add-mul (largest f) (2 ^ suc (emax f)) l ∙ ap (λ (z : ℕ). L + z) (sym (overflow-units f)))

  one-few : 1 < 2 ^ prec f
  one-few = pow-lt {i = 0} {j = prec f} (prec-pos f)

  never-finite : limit f * den ≤ num → G < overflow f → ⊥
  never-finite h l =
      let W = overflow f in
      let one : W ≡ 1 * 2 ^ (low f + suc (emax f)) = sym (one-mul W) in
      let a : n * 2 ≤ (G + W) * den = (grid-nearest f num den D W 1 (low f + suc (emax f)) one one-few).0 l in
      let b : G ≤ L =
      largest-most f (round f false num den) false G (round-fits f false num den) (round-value f false num den l) in
      let c : limit f * den * 2 ^ low f ≤ n = mul-le-mul_right (2 ^ low f) h in
      let d : (L + W) * den ≤ n * 2 = le_trans (le_of_eq (sym middle)) (mul-le-mul_right 2 c) in
      let g : L + W ≤ G + W = le_of_mul-le-mul_right {k = den} (le_trans d a) D in
      let e : G ≡ L = omega arith in
      let t : n * 2 ≡ (G + W) * den = le_antisymm a (le_trans (le_of_eq (ap (λ (z : ℕ). (z + W) * den) e)) d) in
      last-odd (prec f) (kept (prec f) n den) (drop (prec f) n den) (place f) (two f) (kept-le (prec f) n den)
      (e ∙ largest-units f)
      (grid-even f num den D W 1 (low f + suc (emax f)) one one-few (λ z. clash G W l (le_of_eq (sym z))) t)

  under : overflow f ≤ G → limit f * den ≤ num
  under h =
      let l = 2 ^ low f in
      let s : largest f < 2 ^ suc (emax f) = omega (arith, above-largest f, pow_pos (suc (emax f) - prec f)) in
      let b : L < overflow f =
      lt_of_lt_of_le (mul-lt-mul_of_pos_right s (pow_pos (low f))) (le_of_eq (sym (overflow-units f))) in
      let a : (G + L) * den ≤ n * 2 =
      (grid-nearest f num den D L (2 ^ prec f - 1) (place f) (largest-units f) (ones_lt (prec f))).1
      (lt_of_lt_of_le b h) in
      let c : (L + overflow f) * den ≤ (G + L) * den = mul-le-mul_right den (omega arith) in
      le_of_mul-le-mul_right {k = l} (omega (arith, middle)) (pow_pos (low f))

  pub round-finite : num < limit f * den → G < overflow f
  round-finite h = elim (lt-or-ge G (overflow f)) [ inl l ↦ l | inr g ↦ absurd (clash num (limit f * den) h (under g)) ]

  -- The result is infinite exactly from the midpoint above the largest finite value on.
  pub round-infinite : (s : Bool)
      → (limit f * den ≤ num → round f s num den ≡ inf s) × (round f s num den ≡ inf s → limit f * den ≤ num)
  round-infinite s = (
    (λ h. elim (lt-or-ge G (overflow f)) [ inl l ↦ absurd (never-finite h l) | inr g ↦ round-over f s num den g ]),
    (λ e. elim (lt-or-ge G (overflow f)) [
      | inl l ↦ absurd (subst (λ (x : Float). HasValue x s G (2 ^ low f)) e (round-value f s num den l))
      | inr g ↦ under g
    ]),
  )
