-- Products. A factor of magnitude B / K multiplies an error by B / K, and if both factors have errors these add up. A
-- magnitude is a distance from zero. Assumes nothing.
use mathlib.Core.Path.{◌≡◌}
use Prim.Native.Nat.{ℕ, ◌+◌, ◌-◌, ◌*◌, ◌≤◌, ◌<◌}
use native.Mathlib.Nat.{mul-one, mul_comm, mul-le-mul_right, mul-le-mul_left, mul-pos}
use native.Mathlib.Omega.{arith}
use mathlib.Core.Bool.{Bool, true, false}
use Rattle.rounding_error.specs.Fraction.{Frac, frac, nil, times, Within, Mag}
use Rattle.rounding_error.specs.Value.{signed}
use Rattle.rounding_error.proofs.Same.{ring, times-comm, times-nil}
use Rattle.rounding_error.proofs.Within.{chain, from, to}

-- (Y - X) * (W - Z) is not negative.
pub cross-le : (X Y Z W : ℕ) → X ≤ Y → Z ≤ W → X * W + Y * Z ≤ Y * W + X * Z
cross-le X Y Z W h k =
    let a = Y - X in
    let b = W - Z in
    let ea : Y ≡ X + a = omega arith in
    let eb : W ≡ Z + b = omega arith in
    rw (ea, eb) (go a b)
  where
    go : (a b : ℕ) → X * (Z + b) + (X + a) * Z ≤ (X + a) * (Z + b) + X * Z
    go a b = omega arith

-- v * (y - z) for |v| ≤ B.
core : (g e B vp vn vd yp yn yd zp zn zd : ℕ) → vp ≤ vn + B * vd → vn ≤ vp + B * vd
    → g * (yp * zd + zn * yd) ≤ g * (zp * yd + yn * zd) + e * (yd * zd)
    → g * (zp * yd + yn * zd) ≤ g * (yp * zd + zn * yd) + e * (yd * zd)
    → g * ((vp * yp + vn * yn) * (vd * zd) + (vp * zn + vn * zp) * (vd * yd))
    ≤ g * ((vp * zp + vn * zn) * (vd * yd) + (vp * yn + vn * yp) * (vd * zd)) + B * e * ((vd * yd) * (vd * zd))
core g e B vp vn vd yp yn yd zp zn zd a b h k =
    let r = cross-le vp (vn + B * vd) (g * (zp * yd + yn * zd)) (g * (yp * zd + zn * yd) + e * (yd * zd)) a k in
    let s = cross-le vn (vp + B * vd) (g * (yp * zd + zn * yd)) (g * (zp * yd + yn * zd) + e * (yd * zd)) b h in
    simp ring (omega (arith, simp ring at (mul-le-mul_right vd r), simp ring at (mul-le-mul_right vd s)))

-- The same for |v| ≤ B / K, in the unit g * K.
core_at : (g e B K vp vn vd yp yn yd zp zn zd : ℕ) → K * vp ≤ K * vn + B * vd → K * vn ≤ K * vp + B * vd
    → g * (yp * zd + zn * yd) ≤ g * (zp * yd + yn * zd) + e * (yd * zd)
    → g * (zp * yd + yn * zd) ≤ g * (yp * zd + zn * yd) + e * (yd * zd)
    → g * K * ((vp * yp + vn * yn) * (vd * zd) + (vp * zn + vn * zp) * (vd * yd))
    ≤ g * K * ((vp * zp + vn * zn) * (vd * yd) + (vp * yn + vn * yp) * (vd * zd)) + B * e * ((vd * yd) * (vd * zd))
core_at g e B K vp vn vd yp yn yd zp zn zd a b h k =
    simp ring (simp ring at (core g e B (K * vp) (K * vn) vd yp yn yd zp zn zd a b h k))

pub within-times-at : {g e B K : ℕ} {v y z : Frac} → Within K B v nil → Within g e y z
    → Within (g * K) (B * e) (times v y) (times v z)
within-times-at {g} {e} {B} {K} {v} {y} {z} m w =
    let hi : K * v.p ≤ K * v.n + B * v.d = omega (arith, m.above) in
    let lo : K * v.n ≤ K * v.p + B * v.d = omega (arith, m.below) in
    record {
      left = mul-pos m.left w.left;
      right = mul-pos m.left w.right;
      above =
          core_at g e B K v.p v.n v.d y.p y.n y.d z.p z.n z.d hi lo w.above
          (rw (mul_comm y.d z.d) w.below);
      below =
          core_at g e B K v.p v.n v.d z.p z.n z.d y.p y.n y.d hi lo w.below
          (rw (mul_comm z.d y.d) w.above);
    }

pub within-times : {g e B : ℕ} {v y z : Frac} → Mag B v → Within g e y z → Within g (B * e) (times v y) (times v z)
within-times {g} m w = rw (mul-one g) at (within-times-at m w)

-- Both factors have errors: |a| ≤ B and |y| ≤ C.
pub within-product : {g e e' B C : ℕ} {x y a b : Frac} → Mag B a → Mag C y → Within g e x a → Within g e' y b
    → Within g (C * e + B * e') (times x y) (times a b)
within-product {x = x} {y = y} {a = a} mx my h k =
    chain (from (times-comm y x k.left h.left) (to (times-comm y a k.left h.right) (within-times my h)))
    (within-times mx k)

-- ---- magnitudes
pub mag-times : {g e B K : ℕ} {v y : Frac} → Within K B v nil → Within g e y nil
    → Within (g * K) (B * e) (times v y) nil
mag-times {v = v} m w = to (times-nil v m.left) (within-times-at m w)

-- |p - n| ≤ B over the denominator c.
pub mag_of : (g t c p n B : ℕ) → 0 < c → p ≤ n + B → n ≤ p + B → g * B ≤ t * c → Within g t (frac p n c) nil
mag_of g t c p n B C h k l =
    record {
      left = C;
      right = omega arith;
      above = omega (arith, mul-le-mul_left g h);
      below = omega (arith, mul-le-mul_left g k);
    }

pub mag-signed : (s : Bool) (a c : ℕ) → 0 < c → Within c a (signed s a c) nil
mag-signed false a c C = omega arith
mag-signed true a c C = omega arith
