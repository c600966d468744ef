-- Horner's rule in f64 lies near the exact nested sum. Errors are counted in units of 2 ^ -54. A step turns the error e
-- of the inner sum into e / K + 11, where |Z| ≤ 1 / K. Terms that are left out count as an error of the innermost
-- constant. Every nested sum is at most 2 / n!. Assumes nothing.
use mathlib.Core.Bool.{false}
use Prim.Native.Nat.{ℕ, zero, suc, ◌+◌, ◌*◌, ◌/◌, ◌^◌, ◌≤◌, ◌<◌}
use native.Mathlib.Nat.{le_of_lt, mul_comm, mul-pos, mul-le-mul_left, lt-mul-div-succ, div-le_self, div-mul-le_self}
use native.Mathlib.Omega.{arith}
use lib.Dec.{lit≤, lit<}
use lib.Ieee.{Float, binary64, add, mul}
use Rattle.rounding.proofs.NumberOrders.{clash}
use Rattle.rounding_error.specs.Fraction.{Frac, frac, nil, plus, times, Within, Mag}
use Rattle.rounding_error.specs.Value.{val, Rounds}
use Rattle.rounding_error.proofs.Same.{same_refl, times-comm}
use Rattle.rounding_error.proofs.Within.{flip, chain, from, to, weaken, rescale, within-plus, beside}
use Rattle.rounding_error.proofs.ProductErrors.{within-times, within-times-at, mag-times, mag-signed}
use Rattle.rounding_error.proofs.Value.{val_pos}
use Rattle.rounding_error.proofs.OneRounding.{round-absolute}
use Rattle.rounding_error.proofs.Operations.{mul-rounded}
use Rattle.rounding_error.proofs.OperandErrors.{approx, add-approx}
use Rattle.polynomials.specs.Taylor.{factorial}
use Rattle.polynomials.specs.Horner.{reciprocal, horner}
use Rattle.polynomials.proofs.Nested.{nested, factorial-pos}

abbrev pub g : ℕ
g = 2 ^ 54

reciprocal-near : (n : ℕ) → Rounds g 1 (reciprocal n) (frac 1 0 (factorial n))
unfolding reciprocal
reciprocal-near n =
    round-absolute binary64 false 1 (factorial n) 0 0 (factorial-pos n) (lit≤ tt) (lit≤ tt)
    (omega (arith, factorial-pos n))

-- The error after k steps, beginning with e.
unfoldable pub cost : ℕ → ℕ → ℕ → ℕ
cost K e zero = e
cost K e (suc k) = cost K e k / K + 1 + 10

cost-le : (K e k : ℕ) → cost K e k ≤ e + 11 * k
unfolding cost
cost-le K e zero = omega arith
cost-le K e (suc k) = omega (arith, cost-le K e k, div-le_self (cost K e k) K)

-- The index of the innermost constant.
unfoldable pub last : ℕ → ℕ → ℕ → ℕ
last d n zero = n
last d n (suc k) = last d (d + n) k

module _ (d K : ℕ) (K-pos : 0 < K) (fall : (n : ℕ) → 2 * factorial n ≤ factorial (d + n) * K) (z : Float) (Z : Frac)
    (small : Within K 1 Z nil) (near : Rounds g 1 z Z) where
  -- |Z * Q| ≤ 1 / n! for |Q| ≤ 2 / (d + n)!.
  product-mag : (n : ℕ) {Q : Frac} → Within (factorial (d + n)) 2 Q nil → Within (factorial n) 1 (times Z Q) nil
  product-mag n w = rescale (mul-pos (factorial-pos (d + n)) K-pos) (omega (arith, fall n)) (mag-times small w)

  sum-mag : (n : ℕ) {t : Frac} → Within (factorial n) 1 t nil
      → Within (factorial n) 2 (plus (frac 1 0 (factorial n)) t) nil
  sum-mag n w = within-plus (mag-signed false 1 (factorial n) (factorial-pos n)) w

  pub nested-mag : (n k : ℕ) → Within (factorial n) 2 (nested d Z n k) nil
  unfolding nested
  nested-mag n zero = weaken (lit≤ tt) (mag-signed false 1 (factorial n) (factorial-pos n))
  nested-mag n (suc k) = sum-mag n (product-mag n (nested-mag (d + n) k))

  -- What is at most b / n! is at most b.
  units : (n b : ℕ) {q : Frac} → Within (factorial n) b q nil → Within g (b * g) q nil
  units n b w = rescale (factorial-pos n) (omega (arith, mul-le-mul_left b (factorial-pos n))) w

  step : (n e : ℕ) {q : Float} {Q : Frac} → e * K ≤ 2 ^ 50 → e ≤ 2 ^ 50 → Within (factorial (d + n)) 2 Q nil
      → Rounds g (e * K) q Q
      → Rounds g (e + 10) (add binary64 (reciprocal n) (mul binary64 z q)) (plus (frac 1 0 (factorial n)) (times Z Q))
  step n e {q} {Q} l l' m r =
      let three : Mag 3 (val q) = rescale (lit< tt) (omega arith) (chain r.near (units (d + n) 2 m)) in
      let first : Within g (3 * 1) (times (val z) (val q)) (times Z (val q)) =
      from (times-comm (val q) (val z) (val_pos q) (val_pos z))
      (to (times-comm (val q) Z (val_pos q) small.left) (within-times three near.near)) in
      let second : Within g e (times Z (val q)) (times Z Q) =
      rescale (mul-pos (lit< {m = 0} {n = g} tt) K-pos) (omega arith) (within-times-at small r.near) in
      let p = product-mag n m in
      let product : Rounds g (2 + (3 + e)) (mul binary64 z q) (times Z Q) =
      approx 2 0 1 tt (mul-rounded binary64 z q near.real r.real) (chain first second) (units n 1 p)
      (omega arith) in
      let sum =
      add-approx binary64 4 0 2 tt (reciprocal-near n) product (same_refl (sum-mag n p).left)
      (units n 2 (sum-mag n p)) (omega arith) in
      record { real = sum.real; near = weaken (omega arith) sum.near }

  -- The innermost constant stands for all that the exact nested sum has inside it.
  base : (n m e : ℕ) → 2 * g ≤ e * (factorial (d + n) * K) → Rounds g (1 + e) (reciprocal n) (nested d Z n (suc m))
  unfolding nested
  base n m e l =
      let t : Within g e (times Z (nested d Z (d + n) m)) nil =
      rescale (mul-pos (factorial-pos (d + n)) K-pos) (omega (arith, l)) (mag-times small (nested-mag (d + n) m)) in
      record {
        real = (reciprocal-near n).real;
        near = chain (reciprocal-near n).near (flip (beside (frac 1 0 (factorial n)) (factorial-pos n) t));
      }

  -- k steps, for an exact nested sum with more than k.
  pub horner-near : (n k m e : ℕ) → k < m → K ≤ 2 → 2 * g ≤ e * (factorial (d + last d n k) * K) → e + 11 * k ≤ 2 ^ 48
      → Rounds g (cost K (1 + e) k) (horner d z n k) (nested d Z n m)
  unfolding horner nested cost last
  horner-near n k zero e h l t b = absurd (clash k 0 h (omega arith))
  horner-near n zero (suc m) e h l t b = base n m e t
  horner-near n (suc k) (suc m) e h l t b =
      let c = cost K (1 + e) k in
      let r = horner-near (d + n) k m e (omega arith) l t (omega arith) in
      let f : c ≤ (c / K + 1) * K = le_of_lt (rw (mul_comm (c / K + 1) K) (lt-mul-div-succ c K-pos)) in
      let u = cost-le K (1 + e) k in
      let v = div-mul-le_self c K in
      step n (c / K + 1) (omega arith) (omega (arith, div-le_self c K)) (nested-mag (d + n) m)
      (record { real = r.real; near = weaken f r.near })
