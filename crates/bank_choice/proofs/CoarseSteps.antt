-- A number counted in steps of 2^-40, which are coarse compared with those of an f64. What lies below such a number
-- stays below it through a difference, a product, a quotient and a sum with 1, each rounded. Assumes nothing.
use Rattle.std.proofs.Common.{
  ◌≡◌,
  ℕ,
  ◌+◌,
  ◌*◌,
  ◌^◌,
  ◌<◌,
  ◌≤◌,
  true,
  false,
  T,
  sym,
  refl,
  ap,
  true≢false,
  lt_of_lt_of_le,
  mul-le-mul_right,
  mul_assoc,
  lt_of_mul-lt-mul_right,
  mul-lt-mul_of_pos_right,
  mul-pos,
  le_of_mul-le-mul_right,
  arith,
  lit<,
  lit≤,
  pow_pos,
}
use lib.Ieee.{Float, nan, inf, fin, binary64, round, add, sub, mul, div, le, lt}
use lib.Ieee.Exact.{HasValue, round_exact}
use lib.Ieee.Positive.{den, den_pos}
use lib.Ieee.Scale.{finite}
use Rattle.interval.proofs.Signed.{ring, gain, loss, Ordered, bound, of-strictly}
use Rattle.interval.proofs.Operations.{Rounds, in_order, added, multiplied, divided}
use Rattle.sinc_settings.specs.Ranges.{one-f}
use Rattle.bank_choice.proofs.GapFloats.{subtracted}

-- The number of steps in 1, 2^40.
abbrev pub unit : ℕ
unit = 1099511627776

-- The float k / 2^40.
abbrev pub coarse : ℕ → Float
coarse k = round binary64 false k unit

-- x is a / c, and not negative.
pub record Value (x : Float) (a c : ℕ) : Type 0 where
  pub number : T (finite x)
  pub plain : loss x ≡ 0
  pub value : gain x * c ≡ a * den x

pub value_of : (x : Float) (a c : ℕ) → HasValue x false a c → Value x a c
value_of nan a c v = absurd v
value_of (inf s) a c v = absurd v
value_of (fin true m e) a c v = absurd (true≢false v.0)
value_of (fin false m e) a c v = record { number = tt; plain = refl; value = v.1 }

pub exactly : (k : ℕ) → k < 2 ^ 53 → Value (coarse k) k unit
exactly k h =
    value_of (coarse k) k unit
    (round_exact binary64 false k unit k 1034 (lit< tt) h
    (lt_of_lt_of_le (mul-lt-mul_of_pos_right h (pow_pos 1034)) (lit≤ tt)) (sym (mul_assoc k (2 ^ 1034) unit)))

itself : (k : ℕ) → Rounds binary64 (coarse k) k 0 unit
itself k = record { sign = false; size = k; is = refl; same = omega arith }

-- ---- the four steps
pub difference-under : (x : Float) (k : ℕ) → T (finite x) → gain x * unit ≤ (unit + k) * den x
    → T (le (sub binary64 x one-f) (coarse k))
difference-under x k p h =
    in_order binary64 _ _ _ k 0 unit (mul-pos (den_pos x) (lit< tt)) (lit< tt) (subtracted x one-f p tt) (itself k)
    (simp ring (omega (arith, simp ring at h)))

pub product-under : (k i : ℕ) (x y : Float) → Value x k unit → Value y i 1 → T (le (mul binary64 x y) (coarse (k * i)))
product-under k i x y u v =
    in_order binary64 _ _ _ (k * i) 0 unit (mul-pos (den_pos x) (den_pos y)) (lit< tt)
    (multiplied binary64 x y u.number v.number) (itself (k * i))
    (rw (u.plain, v.plain)
    (simp ring (omega (
      arith,
      simp ring at (ap (λ (z : ℕ). z * gain y) u.value),
      simp ring at (ap (λ (z : ℕ). z * (k * den x)) v.value),
    ))))

pub quotient-under : (s n k : ℕ) (x y : Float) → Value x s unit → Value y n 1 → 0 < gain y → s ≤ k * n
    → T (le (div binary64 x y) (coarse k))
quotient-under s n k x y u v g h =
    in_order binary64 _ _ _ k 0 unit (mul-pos g (den_pos x)) (lit< tt) (divided binary64 x y u.number v.number g)
    (itself k)
    (rw u.plain
    (simp ring (omega (
      arith,
      simp ring at (ap (λ (z : ℕ). z * den y) u.value),
      simp ring at (ap (λ (z : ℕ). z * (k * den x)) v.value),
      simp ring at (mul-le-mul_right (den x * den y) h),
    ))))

pub sum-under : (k : ℕ) (x : Float) → Value x k unit → T (le (add binary64 one-f x) (coarse (unit + k)))
sum-under k x u =
    in_order binary64 _ _ _ (unit + k) 0 unit (mul-pos (lit< tt) (den_pos x)) (lit< tt)
    (added binary64 one-f x tt u.number) (itself (unit + k))
    (rw u.plain (simp ring (omega (arith, simp ring at u.value))))

-- ---- a difference of two f64, from below and from above
module _ (x y : Float) (p : T (finite x)) (q : T (finite y)) (u : loss x ≡ 0) (v : loss y ≡ 0) where
  pub difference-over : (a : ℕ) → a * (den x * den y) + gain y * den x * unit ≤ gain x * den y * unit
      → T (le (coarse a) (sub binary64 x y))
  difference-over a h =
      in_order binary64 a 0 unit _ _ _ (lit< tt) (mul-pos (den_pos x) (den_pos y)) (itself a) (subtracted x y p q)
      (rw (u, v) (simp ring (omega (arith, simp ring at h))))

  pub difference-within : (b : ℕ) → gain x * den y * unit ≤ b * (den x * den y) + gain y * den x * unit
      → T (le (sub binary64 x y) (coarse b))
  difference-within b h =
      in_order binary64 _ _ _ b 0 unit (mul-pos (den_pos x) (den_pos y)) (lit< tt) (subtracted x y p q) (itself b)
      (rw (u, v) (simp ring (omega (arith, simp ring at h))))

-- ---- compared with an f64
pub counted : (k : ℕ) (x : Float) → k < 2 ^ 53 → loss x ≡ 0 → Ordered x (coarse k) → gain x * unit ≤ k * den x
counted k x h z o =
    let c = exactly k h in
    le_of_mul-le-mul_right
    (simp ring (omega (
      arith,
      simp ring at (mul-le-mul_right unit (rw (c.plain, z) at (bound o))),
      simp ring at (ap (λ (n : ℕ). n * den x) c.value),
    )))
    (den_pos (coarse k))

pub counted-below : (k : ℕ) (x : Float) → k < 2 ^ 53 → loss x ≡ 0 → Ordered (coarse k) x → k * den x ≤ gain x * unit
counted-below k x h z o =
    let c = exactly k h in
    le_of_mul-le-mul_right
    (simp ring (omega (
      arith,
      simp ring at (mul-le-mul_right unit (rw (c.plain, z) at (bound o))),
      simp ring at (ap (λ (n : ℕ). n * den x) c.value),
    )))
    (den_pos (coarse k))

pub below_top : (k : ℕ) (x top : Float) → Value x k unit → T (finite top) → loss top ≡ 0 → k * den top < unit * gain top
    → T (lt x top)
below_top k x top u p z h =
    of-strictly x top u.number p
    (lt_of_mul-lt-mul_right unit
    (rw (u.plain, z)
    (simp ring (omega (
      arith,
      simp ring at (ap (λ (n : ℕ). n * den top) u.value),
      simp ring at (mul-lt-mul_of_pos_right h (den_pos x)),
    )))))
