-- The margin (|v| + |c|) * part + 2 ^ -960, computed in floats, is large enough: it is not below 2 ^ -960, and |v| and
-- |c| are at most 2 ^ 72 of it. Units are 2 ^ -1074. Assumes nothing.
use mathlib.Core.Path.{◌≡◌, refl, sym, ap}
use mathlib.Core.Logic.{◌⊎◌, inl, inr}
use mathlib.Core.Bool.{false}
use Prim.Native.Nat.{ℕ, zero, suc, ◌+◌, ◌*◌, ◌^◌, ◌≤◌, ◌<◌}
use native.Mathlib.Nat.{le_trans, le_of_eq, le-add_left, le-add_right, le_of_mul-le-mul_right, mul_assoc, mul-pos}
use native.Mathlib.Nat.{zero-mul, mul-le-mul_left, mul-le-mul_right, eq-zero-or-pos}
use native.Mathlib.Omega.{arith}
use lib.Dec.{T, lit≤, lit<}
use lib.Pow.{pow_pos}
use lib.Ieee.{Float, binary64, of_bits, add, mul}
use lib.Ieee.Exact.{HasValue}
use lib.Ieee.Scale.{finite, grid, round_val, round_under}
use Rattle.rounding.proofs.Adding.{plus}
use Rattle.rounding.proofs.Products.{mul-value}
use Rattle.rounding.proofs.WholeUnits.{places, v-ge, rounded-value}
use Rattle.rounding_error.proofs.Same.{ring}
use Rattle.rounding_error.proofs.UnitErrors.{Part, Near, near-part}
use Rattle.near_fused.specs.Step.{least}
use Rattle.near_fused.proofs.MarginShare.{enough, Share, share}
use Rattle.near_fused.proofs.RoundTo53.{rounded, near-hi, few-below}
use Rattle.near_fused.proofs.RemainderOfFloats.{unders}
use Rattle.near_fused.proofs.FiniteParts.{add-finite, mul-finite}

least-value : HasValue least false (1 * 2 ^ 114) (2 ^ 1074)
unfolding of_bits
least-value = (refl, refl)

-- Half of a number is at most the number rounded.
half : (v : ℕ) → 0 < v → v ≤ rounded v * 2
half v P = elim (eq-zero-or-pos (places binary64 v)) [
  | inl e ↦
      let u : 2 ^ places binary64 v ≡ 1 = ap (λ (z : ℕ). 2 ^ z) e in
      omega (arith, near-hi v)
  | inr h ↦ omega (arith, near-hi v, v-ge binary64 v h)
]

sum_of : (x y : Float) (A B : ℕ) → HasValue x false A (2 ^ 1074) → HasValue y false B (2 ^ 1074)
    → T (finite (add binary64 x y)) → HasValue (add binary64 x y) false (rounded (A + B)) (2 ^ 1074)
sum_of x y A B h k f =
    let e = plus binary64 x y A B (2 ^ 1074) (pow_pos 1074) h k in
    rw e (rounded-value binary64 (A + B) false (unders false (A + B) (rw e at f)))

-- n / d rounded, times 2 d, plus 2 d more, is at least n.
scaled : (n t d : ℕ) → 0 < t → (w : ℕ) → Part (2 ^ 53) w (n * t) (t * d) ⊎ Near w (n * t) (t * d) 0
    → n ≤ (w + 1) * (d * 2)
scaled n t d T w (inl h) =
    le_of_mul-le-mul_right {k = t} (simp ring (omega (arith, simp ring at (twice (n * t) (w * (t * d)) h.below)))) T
  where
    twice : (n x : ℕ) → 2 ^ 53 * n ≤ 2 ^ 53 * x + n → n ≤ x * 2
    twice n x h = omega arith
scaled n t d T w (inr h) = le_of_mul-le-mul_right {k = t} (simp ring (omega (arith, simp ring at h.below))) T

-- So for a share n / d of M that is at least M / S, M is at most 2 S of it plus 2 S more.
shared : (M n d S w : ℕ) → 0 < d → d ≤ n * S → M * n ≤ (w + 1) * (d * 2) → M ≤ (w + 1) * (S * 2)
shared M zero d S w D h l = absurd (omega (arith, zero-mul S))
shared M (suc n) d S w D h l =
    le_of_mul-le-mul_right {k = suc n}
    (le_trans l (le_trans (mul-le-mul_left (w + 1) (mul-le-mul_right 2 h)) (le_of_eq (turned (w + 1) (suc n) S))))
    (omega arith)
  where
    turned : (z n S : ℕ) → z * (n * S * 2) ≡ z * (S * 2) * n
    turned z n S = simp ring (omega arith)

module _ (part : Float) (en : T (enough part)) (x y : Float) (A B : ℕ) (X : HasValue x false A (2 ^ 1074))
    (Y : HasValue y false B (2 ^ 1074)) where
  abbrev m : Float
  m = add binary64 x y

  abbrev e : Float
  e = add binary64 (mul binary64 m part) least

  module _ (f : T (finite e)) where
    f1 : T (finite (mul binary64 m part))
    f1 = (add-finite (mul binary64 m part) least f).0

    abbrev M : ℕ
    M = rounded (A + B)

    abbrev P : Share part
    P = share part en

    abbrev W : ℕ
    W = grid binary64 (M * P.n) (2 ^ 1074 * P.d)

    abbrev pub E : ℕ
    E = rounded (W + 1 * 2 ^ 114)

    m-value : HasValue m false M (2 ^ 1074)
    m-value = sum_of x y A B X Y (mul-finite m part f1).0

    scaled_value : HasValue (mul binary64 m part) false W (2 ^ 1074)
    scaled_value =
        let r =
        mul-value binary64 m part false false M P.n (2 ^ 1074) P.d (pow_pos 1074) P.some m-value
        P.value in
        rw r (round_val binary64 (M * P.n) (2 ^ 1074 * P.d)
        (round_under binary64 (M * P.n) (2 ^ 1074 * P.d) (rw r at f1)))

    pub margin-value : HasValue e false E (2 ^ 1074)
    margin-value = sum_of (mul binary64 m part) least W (1 * 2 ^ 114) scaled_value least-value f

    pub margin-least : 2 ^ 114 ≤ E
    margin-least = few-below 1 114 (W + 1 * 2 ^ 114) (lit< tt) (le-add_left (1 * 2 ^ 114) W)

    M-most : M ≤ E * 2 ^ 72
    M-most =
        let a : M ≤ (W + 1) * 2 ^ 71 =
        shared M P.n P.d (2 ^ 70) W P.some P.most
        (scaled (M * P.n) (2 ^ 1074) P.d (pow_pos 1074) W
        (near-part 53 (M * P.n * 2 ^ 1074) (2 ^ 1074 * P.d) (lit< tt) (mul-pos (pow_pos 1074) P.some))) in
        let b = half (W + 1 * 2 ^ 114) (lt-add W) in
        le_trans a (le_trans (mul-le-mul_right (2 ^ 71) (fewer W (1 * 2 ^ 114) (E * 2) (lit≤ tt) b))
        (le_of_eq (mul_assoc E 2 (2 ^ 71))))
      where
        lt-add : (w : ℕ) → 0 < w + 1 * 2 ^ 114
        lt-add w = omega arith

        fewer : (w t e : ℕ) → 1 ≤ t → w + t ≤ e → w + 1 ≤ e
        fewer w t e h k = omega arith

    pub first-most : (q k : ℕ) → A ≡ q * 2 ^ k → q < 2 ^ 53 → A ≤ E * 2 ^ 72
    first-most q k e Q =
        le_trans (le_of_eq e)
        (le_trans (few-below q k (A + B) Q (le_trans (le_of_eq (sym e)) (le-add_right A B))) M-most)

    pub second-most : (q k : ℕ) → B ≡ q * 2 ^ k → q < 2 ^ 53 → B ≤ E * 2 ^ 72
    second-most q k e Q =
        le_trans (le_of_eq e)
        (le_trans (few-below q k (A + B) Q (le_trans (le_of_eq (sym e)) (le-add_left B A))) M-most)
