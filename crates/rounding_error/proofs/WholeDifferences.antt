-- A whole number as a difference of natural numbers, so that `omega` and `simp ring` can be used for facts about ℤ: z
-- is p - n, through sums, differences and products. Assumes nothing.
use mathlib.Core.Path.{◌≡◌, refl, ap}
use mathlib.Core.Bool.{Bool, true, false, not, cond}
use Prim.Native.Nat.{ℕ, zero, suc, ◌+◌, ◌-◌, ◌*◌, ◌≤◌, ◌<◌}
use native.Mathlib.Omega.{arith}
use lib.IntN.{ℤ, pos, negsuc, neg_ℤ, sub_ℕ, ◌+ℤ◌, ◌-ℤ◌, ◌*ℤ◌}
use lib.Dec.{T, ltb, ltb→lt, nltb→le}
use Rattle.rounding_error.specs.Fraction.{frac, zp, zn, whole, Same}

pub record Rep (z : ℤ) (p n : ℕ) : Type 0 where
  pub is : zp z + n ≡ p + zn z

pub rep_pos : (n : ℕ) → Rep (pos n) n 0
rep_pos n = record { is = refl }

pub rep-own : (z : ℤ) → Rep z (zp z) (zn z)
rep-own z = record { is = refl }

pub rep-to : {z : ℤ} {p n p' n' : ℕ} → Rep z p n → p + n' ≡ p' + n → Rep z p' n'
rep-to r e = omega arith

pub rep-less : (a b : ℕ) → Rep (sub_ℕ a b) a b
rep-less a b = go (ltb a b) (ltb→lt a b) (nltb→le a b)
  where
    go : (t : Bool) → (T t → a < b) → (T (not t) → b ≤ a) → Rep (cond t (negsuc (b - suc a)) (pos (a - b))) a b
    go true h k = let l = h tt in omega arith
    go false h k = let l = k tt in omega arith

pub rep_neg : {z : ℤ} {p n : ℕ} → Rep z p n → Rep (neg_ℤ z) n p
rep_neg {z = pos zero} r = omega arith
rep_neg {z = pos (suc k)} r = omega arith
rep_neg {z = negsuc k} r = omega arith

own-add : (x y : ℤ) → Rep (x +ℤ y) (zp x + zp y) (zn x + zn y)
own-add (pos a) (pos b) = record { is = refl }
own-add (pos a) (negsuc b) = rep-to (rep-less a (suc b)) (omega arith)
own-add (negsuc a) (pos b) = rep-to (rep-less b (suc a)) (omega arith)
own-add (negsuc a) (negsuc b) = omega arith

own-mul : (x y : ℤ) → Rep (x *ℤ y) (zp x * zp y + zn x * zn y) (zp x * zn y + zn x * zp y)
own-mul (pos a) (pos b) = omega arith
own-mul (pos a) (negsuc b) = rep-to (rep_neg (rep_pos (a * suc b))) (omega arith)
own-mul (negsuc a) (pos b) = rep-to (rep_neg (rep_pos (suc a * b))) (omega arith)
own-mul (negsuc a) (negsuc b) = omega arith

pub rep_add : {x y : ℤ} {p n p' n' : ℕ} → Rep x p n → Rep y p' n' → Rep (x +ℤ y) (p + p') (n + n')
rep_add {x} {y} r s = rep-to (own-add x y) (omega arith)

pub rep-minus : {x y : ℤ} {p n p' n' : ℕ} → Rep x p n → Rep y p' n' → Rep (x -ℤ y) (p + n') (n + p')
rep-minus r s = rep_add r (rep_neg s)

core : (a b c d p n q m : ℕ) → a + n ≡ p + b → c + m ≡ q + d
    → (a * c + b * d) + (p * m + n * q) ≡ (p * q + n * m) + (a * d + b * c)
core a b c d p n q m h k =
    omega (arith, ap (λ (x : ℕ). x * c) h, ap (λ (x : ℕ). x * d) h, ap (λ (x : ℕ). x * p) k, ap (λ (x : ℕ). x * n) k)

pub rep_mul : {x y : ℤ} {p n p' n' : ℕ} → Rep x p n → Rep y p' n' → Rep (x *ℤ y) (p * p' + n * n') (p * n' + n * p')
rep_mul {x} {y} {p} {n} {p'} {n'} r s =
    rep-to (own-mul x y) (core (zp x) (zn x) (zp y) (zn y) p n p' n' r.is s.is)

-- A difference of two natural numbers is only one integer.
pub rep-unique : {z w : ℤ} {p n : ℕ} → Rep z p n → Rep w p n → z ≡ w
rep-unique {z = pos a} {w = pos b} r s = ap pos (omega arith)
rep-unique {z = pos a} {w = negsuc b} r s = absurd (omega arith)
rep-unique {z = negsuc a} {w = pos b} r s = absurd (omega arith)
rep-unique {z = negsuc a} {w = negsuc b} r s = ap negsuc (omega arith)

-- z / d as (p - n) / d.
pub rep-same : {z : ℤ} {p n : ℕ} (d : ℕ) → 0 < d → Rep z p n → Same (frac p n d) (whole z d)
rep-same d D r = record { left = D; right = D; cross = omega (arith, ap (λ (x : ℕ). x * d) r.is) }
