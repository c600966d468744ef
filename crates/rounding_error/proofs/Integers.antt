-- The fractions z / c of an integer z. Their sums, differences and products are those of the integers, and a float
-- operation on them is exact if the resulting integer has no more digits than the format. An integer is a difference of
-- natural numbers (`WholeDifferences`). Assumes nothing.
use mathlib.Core.Path.{◌≡◌}
use Prim.Native.Nat.{ℕ, ◌+◌, ◌*◌, ◌^◌, ◌≤◌, ◌<◌}
use native.Mathlib.Nat.{mul-pos}
use native.Mathlib.Omega.{arith}
use lib.IntN.{ℤ, pos, negsuc, neg_ℤ, nat_abs, ◌+ℤ◌, ◌-ℤ◌, ◌*ℤ◌}
use lib.Pow.{pow_pos, pow-add}
use lib.Ieee.{Float, Format, prec, low, add, sub, mul, neg}
use Rattle.rounding_error.specs.Fraction.{nil, plus, times, opp, zp, zn, whole, Same, Within}
use Rattle.rounding_error.specs.Value.{Is}
use Rattle.rounding_error.proofs.Same.{same-trans, plus-over}
use Rattle.rounding_error.proofs.ProductErrors.{mag_of}
use Rattle.rounding_error.proofs.Value.{neg_is}
use Rattle.rounding_error.proofs.Exact.{Fits, add_is, mul_is}
use Rattle.rounding_error.proofs.WholeDifferences.{Rep, rep-own, rep_neg, rep_add, rep_mul, rep-same}

-- ---- how large an integer is
pub rep-size : {z : ℤ} {p n : ℕ} (b : ℕ) → Rep z p n → p ≤ n + b → n ≤ p + b → nat_abs z ≤ b
rep-size {z = pos k} b r h l = omega arith
rep-size {z = negsuc k} b r h l = omega arith

pub size-parts : (z : ℤ) → nat_abs z ≡ zp z + zn z
size-parts (pos n) = omega arith
size-parts (negsuc n) = omega arith

pub size-plus : (y z : ℤ) → nat_abs (y +ℤ z) ≤ nat_abs y + nat_abs z
size-plus y z =
    rep-size (nat_abs y + nat_abs z) (rep_add (rep-own y) (rep-own z)) (omega (arith, size-parts y, size-parts z))
    (omega (arith, size-parts y, size-parts z))

size-negated : (n : ℕ) → nat_abs (neg_ℤ (pos n)) ≤ n
size-negated n = rep-size n (rep_neg (rep-own (pos n))) (omega arith) (omega arith)

pub size-times : (y z : ℤ) → nat_abs (y *ℤ z) ≤ nat_abs y * nat_abs z
size-times (pos a) (pos b) = omega arith
size-times (pos a) (negsuc b) = size-negated _
size-times (negsuc a) (pos b) = size-negated _
size-times (negsuc a) (negsuc b) = omega arith

-- ---- as fractions
pub whole-plus : (y z : ℤ) (c : ℕ) → 0 < c → Same (plus (whole y c) (whole z c)) (whole (y +ℤ z) c)
whole-plus y z c C =
    same-trans (plus-over (zp y) (zn y) (zp z) (zn z) c C) (rep-same c C (rep_add (rep-own y) (rep-own z)))

pub whole-opp : (z : ℤ) (c : ℕ) → 0 < c → Same (opp (whole z c)) (whole (neg_ℤ z) c)
whole-opp z c C = rep-same c C (rep_neg (rep-own z))

pub whole-times : (y z : ℤ) (c d : ℕ) → 0 < c * d → Same (times (whole y c) (whole z d)) (whole (y *ℤ z) (c * d))
whole-times y z c d C = rep-same (c * d) C (rep_mul (rep-own y) (rep-own z))

-- |z / c| ≤ t / g.
pub whole-mag : (z : ℤ) (g t c : ℕ) → 0 < c → g * nat_abs z ≤ t * c → Within g t (whole z c) nil
whole-mag z g t c C h =
    mag_of g t c (zp z) (zn z) (nat_abs z) C (omega (arith, size-parts z)) (omega (arith, size-parts z)) h

-- ---- as floats: x is z / 2 ^ t
pub record Steps (x : Float) (z : ℤ) (t : ℕ) : Type 0 where
  pub is : Is x (whole z (2 ^ t))

fits-whole : {f : Format} (z : ℤ) (t : ℕ) → nat_abs z < 2 ^ prec f → t ≤ low f → Fits f (zp z) (zn z) t
fits-whole z t h l = record { hi = omega (arith, size-parts z); lo = omega (arith, size-parts z); deep = l }

pub steps-neg : {x : Float} {a : ℤ} {t : ℕ} → Steps x a t → Steps (neg x) (neg_ℤ a) t
steps-neg {a = a} {t} p =
    let n = neg_is p.is in
    record { is = record { real = n.real; same = same-trans n.same (whole-opp a (2 ^ t) (pow_pos t)) } }

module _ (f : Format) {x y : Float} {a b : ℤ} where
  pub steps-add : {t : ℕ} → nat_abs (a +ℤ b) < 2 ^ prec f → t ≤ low f → Steps x a t → Steps y b t
      → Steps (add f x y) (a +ℤ b) t
  steps-add {t} h l p q =
      record { is = add_is p.is q.is (whole-plus a b (2 ^ t) (pow_pos t)) (fits-whole (a +ℤ b) t h l) }

  pub steps-mul : {t u : ℕ} → nat_abs (a *ℤ b) < 2 ^ prec f → t + u ≤ low f → Steps x a t → Steps y b u
      → Steps (mul f x y) (a *ℤ b) (t + u)
  steps-mul {t} {u} h l p q =
      record {
        is =
            mul_is p.is q.is
            (rw (pow-add 2 t u) (whole-times a b (2 ^ t) (2 ^ u) (mul-pos (pow_pos t) (pow_pos u))))
            (fits-whole (a *ℤ b) (t + u) h l);
      }

pub steps-sub : (f : Format) {x y : Float} {a b : ℤ} {t : ℕ} → nat_abs (a -ℤ b) < 2 ^ prec f → t ≤ low f → Steps x a t
    → Steps y b t → Steps (sub f x y) (a -ℤ b) t
unfolding sub
steps-sub f h l p q = steps-add f h l p (steps-neg q)
