-- The product of two upper parts. Each has 26 digits, so that it is exact, or smaller than every unit. Assumes nothing.
use mathlib.Core.Path.{◌≡◌, sym, ap, ◌∙◌}
use mathlib.Core.Logic.{inl, inr}
use Prim.Native.Nat.{ℕ, ◌+◌, ◌-◌, ◌*◌, ◌/◌, ◌^◌, ◌≤◌, ◌<◌}
use native.Mathlib.Nat.{le_trans, le_of_eq, le_of_lt, lt_of_le_of_lt, mul-pos, mul_assoc, mul-le-mul, mul-le-mul_right}
use native.Mathlib.Nat.{mul-le-mul_left, le_of_mul-le-mul_right, mul-mul-mul_comm, mul-lt-mul_of_pos_right}
use native.Mathlib.Omega.{arith}
use lib.Dec.{T, lit≤, lit<}
use lib.Pow.{pow-add, pow_pos, pow_mono}
use lib.Ieee.{Float, binary64, round, mul, unlike}
use lib.Ieee.Digits.{back}
use lib.Ieee.Exact.{round_exact}
use lib.Ieee.Scale.{finite}
use Rattle.rounding.proofs.NumberOrders.{lt-or-ge}
use Rattle.rounding.proofs.Products.{mul-value}
use Rattle.rounding.proofs.Values.{value-finite}
use Rattle.rounding_error.specs.Fraction.{times, Same, Within}
use Rattle.rounding_error.specs.Value.{signed, val}
use Rattle.rounding_error.proofs.Same.{same-sym, same-trans, times-same}
use Rattle.rounding_error.proofs.Within.{from, rescale, same-within}
use Rattle.rounding_error.proofs.Value.{value-is}
use Rattle.rounding_error.proofs.ProductErrors.{mag-signed}
use Rattle.rounding_error.proofs.Operations.{product-same, mul-rounded}
use Rattle.rounding_error.proofs.OperandErrors.{rounded-absolute}
use Rattle.near_fused.specs.Parts.{lower, high}
use Rattle.near_fused.proofs.PatternSplit.{Split}
use Rattle.near_fused.proofs.LowerPart.{cut, cut-le}

module _ (x y : Float) (S : Split x) (R : Split y) (one : cut y R ≤ 2 ^ 1074)
    (real : T (finite (mul binary64 (high x) (high y)))) where
  abbrev g : ℕ
  g = S.q / 2 ^ lower

  abbrev h : ℕ
  h = R.q / 2 ^ lower

  abbrev i : ℕ
  i = lower + S.k + (lower + R.k)

  abbrev A : ℕ
  A = cut x S

  abbrev B : ℕ
  B = cut y R

  small : g * h < 2 ^ 52
  small =
      lt_of_le_of_lt (mul-le-mul_left g (le_of_lt (few R.q R.digits)))
      (mul-lt-mul_of_pos_right (few S.q S.digits) (pow_pos 26))
    where
      few : (q : ℕ) → q < 2 ^ 53 → q / 2 ^ lower < 2 ^ 26
      few q h = omega arith

  shape : A * B ≡ g * h * 2 ^ i
  shape =
      ap (λ (z : ℕ). z * B) (mul_assoc g (2 ^ lower) (2 ^ S.k) ∙ ap (λ (z : ℕ). g * z) (sym (pow-add 2 lower S.k)))
      ∙ ap (λ (z : ℕ). g * 2 ^ (lower + S.k) * z)
      (mul_assoc h (2 ^ lower) (2 ^ R.k) ∙ ap (λ (z : ℕ). h * z) (sym (pow-add 2 lower R.k)))
      ∙ mul-mul-mul_comm g (2 ^ (lower + S.k)) h (2 ^ (lower + R.k))
      ∙ ap (λ (z : ℕ). g * h * z) (sym (pow-add 2 (lower + S.k) (lower + R.k)))

  times-is : Same (signed (unlike S.sign R.sign) (A * B) (2 ^ 1074 * 2 ^ 1074))
      (times (val (high x)) (val (high y)))
  times-is =
      same-trans (product-same S.sign R.sign A (2 ^ 1074) B (2 ^ 1074) (pow_pos 1074) (pow_pos 1074))
      (times-same (same-sym (value-is (high x) S.sign A (2 ^ 1074) (pow_pos 1074) S.upper).same)
      (same-sym (value-is (high y) R.sign B (2 ^ 1074) (pow_pos 1074) R.upper).same))

  is-round : mul binary64 (high x) (high y) ≡ round binary64 (unlike S.sign R.sign) (A * B) (2 ^ 1074 * 2 ^ 1074)
  is-round =
      mul-value binary64 (high x) (high y) S.sign R.sign A B (2 ^ 1074) (2 ^ 1074) (pow_pos 1074) (pow_pos 1074)
      S.upper R.upper

  exact : 1074 ≤ i → Same (val (mul binary64 (high x) (high y))) (times (val (high x)) (val (high y)))
  exact l =
      let j = i - 1074 in
      let e : A * B ≡ g * h * 2 ^ j * 2 ^ 1074 =
      shape
      ∙ ap (λ (z : ℕ). g * h * z) (ap (λ (z : ℕ). 2 ^ z) (sym (back i 1074 l)) ∙ pow-add 2 j 1074)
      ∙ sym (mul_assoc (g * h) (2 ^ j) (2 ^ 1074)) in
      let most : g * h * 2 ^ j ≤ A =
      le_of_mul-le-mul_right {k = 2 ^ 1074} (le_trans (le_of_eq (sym e)) (mul-le-mul_left A one)) (pow_pos 1074) in
      let v =
      round_exact binary64 (unlike S.sign R.sign) (A * B) (2 ^ 1074 * 2 ^ 1074) (g * h) j
      (mul-pos (pow_pos 1074) (pow_pos 1074)) (lt_of_le_of_lt (le_of_lt small) (lit< tt))
      (lt_of_le_of_lt most (lt_of_le_of_lt (cut-le x S) S.under))
      (ap (λ (z : ℕ). z * 2 ^ 1074) e ∙ mul_assoc (g * h * 2 ^ j) (2 ^ 1074) (2 ^ 1074)) in
      rw is-round (same-trans
      (value-is (round binary64 (unlike S.sign R.sign) (A * B) (2 ^ 1074 * 2 ^ 1074))
      (unlike S.sign R.sign) (A * B) (2 ^ 1074 * 2 ^ 1074) (mul-pos (pow_pos 1074) (pow_pos 1074)) v).same
      times-is)

  tiny : i < 1074 → Within (2 ^ 1074 * 2) 1 (val (mul binary64 (high x) (high y))) (times (val (high x)) (val (high y)))
  tiny l =
      let m : A * B ≤ 2 ^ 52 * 2 ^ 1073 =
      le_trans (le_of_eq shape) (mul-le-mul (le_of_lt small) (pow_mono {j = 1073} (omega arith))) in
      let n : A * B * 2 ^ 1021 ≤ 2 ^ 0 * (2 ^ 1074 * 2 ^ 1074) = le_trans (mul-le-mul_right (2 ^ 1021) m) (lit≤ tt) in
      (rounded-absolute 1021 0 (lit≤ tt) (lit≤ tt)
      (from times-is (rescale (mul-pos (pow_pos 1074) (pow_pos 1074)) n
      (mag-signed (unlike S.sign R.sign) (A * B) (2 ^ 1074 * 2 ^ 1074)
      (mul-pos (pow_pos 1074) (pow_pos 1074)))))
      (mul-rounded binary64 (high x) (high y) (value-finite (high x) S.sign A (2 ^ 1074) S.upper)
      (value-finite (high y) R.sign B (2 ^ 1074) R.upper))).near

  pub product-near : Within (2 ^ 1074 * 2) 1 (val (mul binary64 (high x) (high y)))
      (times (val (high x)) (val (high y)))
  product-near = elim (lt-or-ge i 1074) [
    | inl l ↦ tiny l
    | inr l ↦ rescale (lit< tt) (lit≤ tt) (same-within 1 (exact l))
  ]
