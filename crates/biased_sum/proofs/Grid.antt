-- An even number of an f32's last digit, large enough, added to y: rounding the sum to an f64 is rounding y to an f32.
-- Assumes nothing.
use mathlib.Core.Path.{◌≡◌, sym, ap, ◌∙◌, subst}
use mathlib.Core.Logic.{inl, inr}
use mathlib.Core.Bool.{Bool}
use Prim.Native.Nat.{ℕ, suc, ◌+◌, ◌-◌, ◌*◌, ◌^◌, ◌≤◌, ◌<◌}
use native.Mathlib.Nat.{le_trans, le_of_eq, lt_of_lt_of_le, lt_of_le_of_lt, add-mul, mul_assoc, mul-le-mul}
use native.Mathlib.Nat.{mul-le-mul_right, two-pow-succ}
use native.Mathlib.Omega.{arith}
use lib.Dec.{lit<}
use lib.Pow.{pow-add, pow_pos, pow_mono}
use lib.Ieee.{Float, binary32, binary64, round}
use lib.Ieee.Exact.{HasValue, units_val}
use lib.Ieee.Nearest.{closest}
use Rattle.rounding.proofs.NearestWhole.{closest-ge, closest-le, closest-shift}
use Rattle.rounding.proofs.DroppedDigits.{round-finer, size-at}
use Rattle.rounding.proofs.NumberOrders.{lt-or-ge}
use Rattle.rounding.proofs.Values.{rescale}
use Rattle.rounding.proofs.WholeUnits.{near_le, places, rounded-value}
use Rattle.biased_sum.specs.Biased.{digit, bias-of, near_of, far-of}

abbrev pub L : ℕ
L = 2 ^ 1074

-- ---- one unit D for both
module _ (s : Bool) (k w y : ℕ) (K : k ≤ 252) (lo : 2 ^ 52 * digit k ≤ w * 2 * digit k + y)
    (hi : w * 2 * digit k + y < 2 ^ 53 * digit k) (from : 2 ^ 23 * digit k ≤ y) (to : y < 2 ^ 24 * digit k) where
  abbrev D : ℕ
  D = digit k

  abbrev v : ℕ
  v = w * 2 * D + y

  abbrev c : ℕ
  c = closest y D

  few : c ≤ 2 ^ 24
  few = closest-le y D (2 ^ 24) (pow_pos (925 + k)) to

  at : places binary64 v ≡ 925 + k
  at =
      size-at v 53 (925 + k) (lit< tt) (le_trans (le_of_eq (pow-add 2 52 (925 + k))) lo)
      (lt_of_lt_of_le hi (le_of_eq (sym (pow-add 2 53 (925 + k)))))

  wide : HasValue (round binary64 s v L) s (w * 2 * D + c * D) L
  wide =
      let fine : closest v (2 ^ places binary64 v) * 2 ^ places binary64 v < 2 ^ (1074 + 1024) =
      lt_of_le_of_lt (mul-le-mul (near_le binary64 v) (pow_mono (subst (λ (z : ℕ). z ≤ 1177) (sym at) (omega arith))))
      (lit< tt) in
      let e : closest v D * D ≡ w * 2 * D + c * D =
      ap (λ (z : ℕ). z * D) (closest-shift w y D (pow_pos (925 + k))) ∙ add-mul (w * 2) c D in
      subst (λ (z : ℕ). HasValue (round binary64 s v L) s z L) (ap (λ (z : ℕ). closest v (2 ^ z) * 2 ^ z) at ∙ e)
      (rounded-value binary64 v s fine)

  narrow : HasValue (round binary32 s y L) s (c * D) L
  narrow =
      let small : c * 2 ^ k < 2 ^ 277 = lt_of_le_of_lt (mul-le-mul few (pow_mono K)) (lit< tt) in
      rescale (round binary32 s y L) s (c * 2 ^ k) (2 ^ 149) (c * D) L (pow_pos 149) (finer c k)
      (subst (λ (x : Float). HasValue x s (c * 2 ^ k) (2 ^ 149)) (sym (round-finer binary32 s y 925 k (λ _. from) to))
      (units_val binary32 s c k small))
    where
      finer : (c k : ℕ) → c * 2 ^ k * 2 ^ 1074 ≡ c * 2 ^ (925 + k) * 2 ^ 149
      finer c k =
          mul_assoc c (2 ^ k) (2 ^ 1074)
          ∙ ap (λ (z : ℕ). c * z)
          (sym (pow-add 2 k 1074) ∙ ap (λ (z : ℕ). 2 ^ z) (omega arith) ∙ pow-add 2 (925 + k) 149)
          ∙ sym (mul_assoc c (2 ^ (925 + k)) (2 ^ 149))

-- ---- both units
pub record Rounded (s : Bool) (k y : ℕ) : Type 0 where
  pub size : ℕ
  pub least : 2 ^ 23 * digit k ≤ size
  pub wide : HasValue (round binary64 s (bias-of k + y) (2 ^ 1074)) s (bias-of k + size) (2 ^ 1074)
  pub narrow : HasValue (round binary32 s y (2 ^ 1074)) s size (2 ^ 1074)

pub rounds : (s : Bool) (k y : ℕ) → k < 252 → near_of k ≤ bias-of k + y → bias-of k + y < far-of k → Rounded s k y
rounds s k y K lo hi = elim (lt-or-ge y (2 ^ 24 * digit k)) [
  | inl l ↦ record {
    size = closest y (digit k) * digit k;
    least = mul-le-mul_right (digit k) (closest-ge y (digit k) (2 ^ 23) (pow_pos (925 + k)) (omega arith));
    wide = wide s k (2 ^ 52 - 2 ^ 23) y (omega arith) (omega arith) (omega arith) (omega arith) l;
    narrow = narrow s k (2 ^ 52 - 2 ^ 23) y (omega arith) (omega arith) (omega arith) (omega arith) l;
  }
  | inr g ↦ upper g
]
  where
    twice : digit (suc k) ≡ digit k + digit k
    twice =
        let e : 925 + suc k ≡ suc (925 + k) = omega arith in
        ap (λ (z : ℕ). 2 ^ z) e ∙ two-pow-succ (925 + k)

    upper : 2 ^ 24 * digit k ≤ y → Rounded s k y
    upper g =
        let D = digit k in
        let E = digit (suc k) in
        let c = closest y E in
        let t : E ≡ D + D = twice in
        let b : (2 ^ 51 - 2 ^ 22) * 2 * E ≡ bias-of k = omega arith in
        let z : 2 ^ 23 ≤ c = closest-ge y E (2 ^ 23) (pow_pos (925 + suc k)) (omega arith) in
        record {
          size = c * E;
          least = le_trans (omega arith) (mul-le-mul_right E z);
          wide =
              subst (λ (z : ℕ). HasValue (round binary64 s (z + y) L) s (z + c * E) L) b
              (wide s (suc k) (2 ^ 51 - 2 ^ 22) y (omega arith) (omega arith) (omega arith) (omega arith)
              (omega arith));
          narrow =
              narrow s (suc k) (2 ^ 51 - 2 ^ 22) y (omega arith) (omega arith) (omega arith) (omega arith)
              (omega arith);
        }
