-- Sums and products of finite samples with zeros: adding a zero changes no value, a product with 0 is a zero, and one
-- with 1 is the factor. Every value is counted in the smallest value. Assumes nothing.
use mathlib.Core.Path.{◌≡◌, refl, sym, ap, ◌∙◌, subst}
use mathlib.Core.Bool.{Bool, true, false, ◌&&◌, and-true, or-true, cond, beq}
use Prim.Native.Nat.{ℕ, zero, suc, ◌+◌, ◌-◌, ◌*◌, ◌^◌, ◌<◌}
use native.Mathlib.Nat.{mul-zero, mul-one, zero-mul}
use native.Mathlib.Omega.{arith}
use borrow.Author.Tests.{lt-ltb, le-ltb, eq-eqb}
use lib.Dec.{T, ltb, lit<}
use lib.IntN.{pos}
use lib.Ieee.{Float, nan, inf, fin, binary64, fits, low, unlike, level, round, add, mul, eq}
use lib.Ieee.Fits.{round-fits}
use lib.Ieee.Exact.{HasValue}
use lib.Ieee.Scale.{finite}
use Rattle.rounding.proofs.Values.{fits-units}
use Rattle.rounding.proofs.RoundsToItself.{round-own}
use Rattle.rounding.proofs.Sums.{sum-sign, sum-size, sum_is}
use Rattle.rounding.proofs.Adding.{add-units}
use Rattle.rounding.proofs.SumSymmetry.{add-swap}
use Rattle.rounding.proofs.Products.{mul-value}
use Rattle.rounding.proofs.Comparing.{eq-units}

-- How many of the smallest values 1 is.
abbrev pub units : ℕ
units = 2 ^ low binary64

-- y is a units, and has the sign s if a is not 0.
pub record Like (s : Bool) (a : ℕ) (y : Float) : Type 0 where
  pub fit : T (fits binary64 y)
  pub sign : Bool
  pub value : HasValue y sign a units
  pub same : 0 < a → sign ≡ s

-- ---- zeros
null : (s t : Bool) → Like s 0 (fin t 0 (pos 0))
unfolding round
null s t = record { fit = round-fits binary64 t 0 1; sign = t; value = (refl, refl); same = λ h. absurd (omega arith) }

round-null : (t : Bool) (c : ℕ) → 0 < c → round binary64 t 0 c ≡ fin t 0 (pos 0)
round-null t c h = round-own binary64 (fin t 0 (pos 0)) t 0 c (null t t).fit h (refl, zero-mul c)

-- ---- a zero added
module _ (t u : Bool) (a : ℕ) where
  size_is : sum-size t a u 0 ≡ a
  size_is = go (beq t u)
    where
      go : (b : Bool) → cond b (a + 0) (cond (ltb a 0) (0 - a) (a - 0)) ≡ a
      go true = omega arith
      go false = rw (le-ltb a 0 (omega arith)) (omega arith)

  sign-is : 0 < a → sum-sign t a u 0 ≡ t
  sign-is h = go (beq t u)
    where
      go : (b : Bool) → cond b t (cond (ltb a 0) u (t && ltb 0 a)) ≡ t
      go true = refl
      go false = rw (le-ltb a 0 (omega arith), lt-ltb 0 a h) (and-true t)

module _ {s : Bool} where
  signed : (a : ℕ) {y : Float} (v : Like s a y) (t : Bool) → (0 < a → t ≡ v.sign) → Like s a (round binary64 t a units)
  signed zero v t h = rw (round-null t units (lit< tt)) (null s t)
  signed (suc a) {y} v t h =
      subst (Like s (suc a))
      (sym (ap (λ (z : Bool). round binary64 z (suc a) units) (h (omega arith))
      ∙ round-own binary64 y v.sign (suc a) units v.fit (lit< tt) v.value))
      v

  pub plus-null : {a : ℕ} {y z : Float} → Like s a y → Like s 0 z → Like s a (add binary64 y z)
  plus-null {a} {y} {z} v w =
      let t = v.sign in
      let u = w.sign in
      subst (Like s a)
      (sym (add-units binary64 y z t u a 0 units (lit< tt) v.value w.value
      ∙ sum_is binary64 t a u 0 units
      ∙ ap (λ (n : ℕ). round binary64 (sum-sign t a u 0) n units) (size_is t u a)))
      (signed a v (sum-sign t a u 0) (sign-is t u a))

  pub null-plus : {a : ℕ} {y z : Float} → Like s 0 z → Like s a y → Like s a (add binary64 z y)
  null-plus {a} {y} {z} w v =
      subst (Like s a) (add-swap binary64 y z v.sign w.sign a 0 units (lit< tt) v.value w.value)
      (plus-null v w)

-- ---- a product by 0 and by 1
pub by_zero : (r s : Bool) (a : ℕ) {y : Float} → Like s a y → Like r 0 (mul binary64 y (fin false 0 (pos 0)))
by_zero r s a {y} v =
    let t = unlike v.sign false in
    subst (Like r 0)
    (sym (mul-value binary64 y _ v.sign false a 0 units 1 (lit< tt) (lit< tt) v.value (refl, refl)
    ∙ ap (λ (n : ℕ). round binary64 t n (units * 1)) (mul-zero a)
    ∙ round-null t (units * 1) (lit< tt)))
    (null r t)

like-plus : (t : Bool) → unlike t false ≡ t
like-plus true = refl
like-plus false = refl

pub by_one : (s : Bool) (a : ℕ) {y : Float} → Like s a y → mul binary64 y (fin false 1 (pos 0)) ≡ y
by_one s a {y} v =
    mul-value binary64 y (fin false 1 (pos 0)) v.sign false a 1 units 1 (lit< tt) (lit< tt) v.value (refl, refl)
    ∙ rw (like-plus v.sign, mul-one a) (round-own binary64 y v.sign a units v.fit (lit< tt) v.value)

-- ---- a finite sample, in units
pub record Sample (y : Float) : Type 0 where
  pub sign : Bool
  pub size : ℕ
  pub like : Like sign size y

pub sample : (y : Float) → T (finite y) → T (fits binary64 y) → Sample y
sample nan h f = absurd h
sample (inf s) h f = absurd h
sample (fin s m e) h f =
    let (i, v, few, below) = fits-units binary64 s m e f in
    record { sign = s; size = m * 2 ^ i; like = record { fit = f; sign = s; value = v; same = λ l. refl } }

pub equal : (s : Bool) (a : ℕ) {y z : Float} → Like s a y → Like s a z → eq y z ≡ true
equal s a {y} {z} v w =
    eq-units y z v.sign w.sign a a units (lit< tt) v.value w.value ∙ go a v.same w.same
  where
    alike : (t u : Bool) → t ≡ s → u ≡ s → beq t u ≡ true
    alike true true p q = refl
    alike false false p q = refl
    alike true false p q = q ∙ sym p
    alike false true p q = p ∙ sym q

    go : (a : ℕ) → (0 < a → v.sign ≡ s) → (0 < a → w.sign ≡ s) → level v.sign a w.sign a ≡ true
    go zero p q = or-true (beq v.sign w.sign)
    go (suc n) p q = rw (eq-eqb (suc n) (suc n) refl, alike v.sign w.sign (p (omega arith)) (q (omega arith)))
