-- `step`: p + b as an f64, between the ends of b's bias, is the biased f32 sum of p and what b stands for. `start`: the
-- first such sum is that of an f32 and the bias itself. `back`: taking the bias off is exact. Assumes nothing.
use mathlib.Core.Path.{◌≡◌, refl, sym, ap, ◌∙◌, subst}
use mathlib.Core.Bool.{Bool, true, false, not, beq, cond, true≢false, false≢true}
use Prim.Native.Nat.{ℕ, ◌+◌, ◌-◌, ◌<◌}
use native.Mathlib.Nat.{add-zero}
use native.Mathlib.Omega.{arith}
use lib.Dec.{T, ltb}
use lib.Pow.{pow_pos}
use lib.Ieee.{Float, binary32, binary64, round, add, sub, neg, mul, fits, lt}
use lib.Ieee.Exact.{HasValue}
use lib.Ieee.Fits.{fits_widens, mul-fits}
use borrow.Author.Tests.{le-ltb, ltb-false}
use Rattle.rounding.specs.Operations.{fused}
use Rattle.rounding.proofs.Adding.{add-units}
use Rattle.rounding.proofs.Fusing.{fused-fits}
use Rattle.rounding.proofs.RoundsToItself.{round-own}
use Rattle.rounding.proofs.Sums.{sum_is, sum_less, sum-sign, sum-size}
use Rattle.rounding.proofs.Values.{neg_value, value-finite}
use Rattle.fused32.specs.Parts.{amount}
use Rattle.fused32.proofs.SumCases.{both}
use Rattle.fused32.proofs.Parts.{short, fused-is}
use Rattle.biased_sum.specs.Biased.{bias-of, Frame, Biased}
use Rattle.biased_sum.proofs.Grid.{L}
use Rattle.biased_sum.proofs.InsideFrame.{between-finite}
use Rattle.biased_sum.proofs.BiasedAddition.{taken}

module _ (m low high b q : Float) (B : Biased m low high b q) where
  -- ---- one step of a chain
  pub step : (x c : Float) → T (fits binary32 x) → T (fits binary32 c)
      → lt low (add binary64 (mul binary64 x c) b) ≡ true → lt (add binary64 (mul binary64 x c) b) high ≡ true
      → Biased m low high (add binary64 (mul binary64 x c) b) (fused binary32 x c q)
  step x c hx hc lo hi =
      let s = B.sign in
      let p = mul binary64 x c in
      let F = B.frame in
      let f =
      between-finite low (add binary64 p b) high (value-finite low s _ L F.lower)
      (value-finite high s _ L F.upper) lo hi in
      let P = short p (mul-fits binary64 x c) (both p b f).0 in
      let t = taken P.sign s (amount P) B.size B.k m low high p b F P.value B.biased lo hi in
      let e : add binary32 p q ≡ round binary32 s (sum-size P.sign (amount P) s B.size) L =
      add-units binary32 p q P.sign s (amount P) B.size L (pow_pos 1074) P.value B.value
      ∙ sum_is binary32 P.sign (amount P) s B.size L
      ∙ ap (λ (z : Bool). round binary32 z (sum-size P.sign (amount P) s B.size) L) t.sign in
      record {
        sign = s;
        k = B.k;
        frame = F;
        size = t.size;
        some = t.some;
        held = fused-fits binary32 x c q;
        value = subst (λ (z : Float). HasValue z s t.size L) (sym e ∙ fused-is x c q hx hc) t.rounded;
        biased = t.biased;
      }

  -- ---- taking the bias off
  pub back : sub binary64 b m ≡ q
  unfolding sub
  back =
      let s = B.sign in
      let C = bias-of B.k in
      let z : C + B.size - C ≡ B.size = omega arith in
      let l : C < C + B.size = omega (arith, B.some) in
      add-units binary64 b (neg m) s (not s) (C + B.size) C L (pow_pos 1074) B.biased
      (neg_value m s C L B.frame.bias)
      ∙ sum_less binary64 s (not s) (C + B.size) C L (other s) l
      ∙ ap (λ (n : ℕ). round binary64 s n L) z
      ∙ round-own binary64 q s B.size L (fits_widens q B.held) (pow_pos 1074) B.value
    where
      other : (s : Bool) → beq s (not s) ≡ false
      other true = refl
      other false = refl

-- ---- the first sum: of an f32 and the bias
pub start : (s : Bool) (k : ℕ) (m low high q : Float) → Frame s k m low high → T (fits binary32 q)
    → lt low (add binary64 q m) ≡ true → lt (add binary64 q m) high ≡ true
    → Biased m low high (add binary64 q m) q
start s k m low high q F held lo hi =
    let f =
    between-finite low (add binary64 q m) high (value-finite low s _ L F.lower)
    (value-finite high s _ L F.upper) lo hi in
    let P = short q (fits_widens q held) (both q m f).0 in
    let t =
    taken P.sign s (amount P) 0 k m low high q m F P.value
    (subst (λ (z : ℕ). HasValue m s z L) (sym (add-zero (bias-of k))) F.bias) lo hi in
    let (same, size) = alone P.sign (amount P) s t.sign t.more in
    let v : HasValue q s (amount P) L = subst (λ (z : Bool). HasValue q z (amount P) L) same P.value in
    record {
      sign = s;
      k = k;
      frame = F;
      size = t.size;
      some = t.some;
      held = held;
      value =
          subst (λ (z : Float). HasValue z s t.size L)
          (ap (λ (z : ℕ). round binary32 s z L) size ∙ round-own binary32 q s (amount P) L held (pow_pos 1074) v)
          t.rounded;
      biased = t.biased;
    }
  where
    alone : (t : Bool) (P : ℕ) (s : Bool) → sum-sign t P s 0 ≡ s → 0 < sum-size t P s 0
        → (t ≡ s) × (sum-size t P s 0 ≡ P)
    alone true P true a n = (refl, add-zero P)
    alone false P false a n = (refl, add-zero P)
    alone false P true a n =
        absurd (false≢true (ap (λ (z : Bool). cond z true false) (sym (le-ltb P 0 (omega arith))) ∙ a))
    alone true P false a n = absurd (over (ltb P 0) (le-ltb P 0 (omega arith)) a n)
      where
        over : (x : Bool) → x ≡ false → cond x false (ltb 0 P) ≡ false → 0 < cond x (0 - P) (P - 0) → ⊥
        over true e a n = true≢false e
        over false e a n = omega (arith, ltb-false 0 P a)
