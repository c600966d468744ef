-- What is left of a float without its upper part. Assumes nothing.
use mathlib.Core.Path.{◌≡◌, sym, ap, ◌∙◌, subst}
use Prim.Native.Nat.{ℕ, zero, suc, ◌+◌, ◌*◌, ◌/◌, ◌%◌, ◌^◌, ◌≤◌, ◌<◌}
use native.Mathlib.Nat.{mul-le-mul_right, add-mul, div-add-mod'}
use native.Mathlib.Omega.{arith}
use lib.Pow.{pow_pos}
use lib.Ieee.{Float}
use Rattle.rounding_error.specs.Fraction.{plus, opp, Same}
use Rattle.rounding_error.specs.Value.{signed}
use Rattle.rounding_error.proofs.Same.{same-sym, same-trans, plus-same, opp-same}
use Rattle.rounding_error.proofs.Value.{value-is}
use Rattle.near_fused.specs.Parts.{lower, high}
use Rattle.near_fused.proofs.RemainderOfFloats.{up}
use Rattle.near_fused.proofs.PatternSplit.{Split}
use Rattle.near_fused.proofs.ProductLowPart.{rest}

module _ (x : Float) (S : Split x) where
  abbrev pub cut : ℕ
  cut = S.q / 2 ^ lower * 2 ^ lower * 2 ^ S.k

  abbrev pub rests : ℕ
  rests = S.q % 2 ^ lower * 2 ^ S.k

  whole : S.q * 2 ^ S.k ≡ cut + rests
  whole =
      ap (λ (z : ℕ). z * 2 ^ S.k) (sym (div-add-mod' S.q (2 ^ lower)))
      ∙ add-mul (S.q / 2 ^ lower * 2 ^ lower) (S.q % 2 ^ lower) (2 ^ S.k)

  pub cut-le : cut ≤ S.q * 2 ^ S.k
  cut-le = mul-le-mul_right (2 ^ S.k) (under S.q)
    where
      under : (q : ℕ) → q / 2 ^ lower * 2 ^ lower ≤ q
      under q = omega arith

  pub rest-same : Same (signed S.sign rests (2 ^ 1074)) (rest x (high x))
  rest-same =
      same-trans (subst
      (λ (z : ℕ). Same (signed S.sign rests (2 ^ 1074))
      (plus (signed S.sign z (2 ^ 1074)) (opp (signed S.sign cut (2 ^ 1074)))))
      (sym whole) (up S.sign rests cut (2 ^ 1074) (pow_pos 1074)))
      (plus-same (same-sym (value-is x S.sign (S.q * 2 ^ S.k) (2 ^ 1074) (pow_pos 1074) S.value).same)
      (opp-same (same-sym (value-is (high x) S.sign cut (2 ^ 1074) (pow_pos 1074) S.upper).same)))

  pub rests-le : rests * 2 ^ 25 ≤ S.q * 2 ^ S.k + 2 ^ 52
  rests-le = go S.k S.normal
    where
      go : (k : ℕ) → (0 < k → 2 ^ 52 ≤ S.q) → S.q % 2 ^ lower * 2 ^ k * 2 ^ 25 ≤ S.q * 2 ^ k + 2 ^ 52
      go zero n = omega arith
      go (suc k) n = grown S.q (2 ^ suc k) (n (omega arith))
        where
          grown : (q t : ℕ) → 2 ^ 52 ≤ q → q % 2 ^ lower * t * 2 ^ 25 ≤ q * t + 2 ^ 52
          grown q t h =
              let a : q % 2 ^ lower * 2 ^ 25 ≤ q = omega arith in
              let b = mul-le-mul_right t a in
              omega arith
