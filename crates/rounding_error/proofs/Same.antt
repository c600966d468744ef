-- Fractions that are the same number: an equivalence that sums, products, quotients and opposites keep. Cross products
-- are multiplied out, and a denominator above zero is cancelled. Assumes nothing.
use mathlib.Core.Path.{◌≡◌, refl, ap}
use Prim.Native.Nat.{ℕ, ◌+◌, ◌*◌, ◌<◌}
use native.Mathlib.Nat.{mul-add, add-mul, mul_assoc, mul_comm, mul_left_comm, add_assoc, add_comm, add_left_comm}
use native.Mathlib.Nat.{mul-pos, eq_of_mul-eq-mul_right}
use native.Mathlib.Omega.{arith}
use Rattle.rounding_error.specs.Fraction.{Frac, frac, nil, plus, times, opp, over, Same}

-- Multiplies products out and sorts their factors: `simp ring (omega (arith, simp ring at h))` is linear arithmetic
-- over monomials.
pub ruleset ring = (mul-add, add-mul, mul_assoc, mul_comm, mul_left_comm)

-- Sorts sums too: `simp sums` proves an equation between polynomials outright.
pub ruleset sums = (mul-add, add-mul, mul_assoc, mul_comm, mul_left_comm, add_assoc, add_comm, add_left_comm)

pub same_refl : {x : Frac} → 0 < x.d → Same x x
same_refl h = record { left = h; right = h; cross = refl }

pub same-sym : {x y : Frac} → Same x y → Same y x
same-sym s = record { left = s.right; right = s.left; cross = omega (arith, s.cross) }

times-eq : {a b : ℕ} (c : ℕ) → a ≡ b → a * c ≡ b * c
times-eq c e = ap (λ (x : ℕ). x * c) e

trans-core : (xp xn xd yp yn yd zp zn zd : ℕ) → xp * yd + yn * xd ≡ yp * xd + xn * yd
    → yp * zd + zn * yd ≡ zp * yd + yn * zd → (xp * zd + zn * xd) * yd ≡ (zp * xd + xn * zd) * yd
trans-core xp xn xd yp yn yd zp zn zd h k =
    simp ring (omega (arith, simp ring at (times-eq zd h), simp ring at (times-eq xd k)))

pub same-trans : {x y z : Frac} → Same x y → Same y z → Same x z
same-trans {x} {y} {z} h k =
    record {
      left = h.left;
      right = k.right;
      cross = eq_of_mul-eq-mul_right y.d h.right (x.p * z.d + z.n * x.d) (z.p * x.d + x.n * z.d)
          (trans-core x.p x.n x.d y.p y.n y.d z.p z.n z.d h.cross k.cross);
    }

plus-core : (xp xn xd yp yn yd zp zn zd wp wn wd : ℕ) → xp * zd + zn * xd ≡ zp * xd + xn * zd
    → yp * wd + wn * yd ≡ wp * yd + yn * wd
    → (xp * yd + yp * xd) * (zd * wd) + (zn * wd + wn * zd) * (xd * yd)
    ≡ (zp * wd + wp * zd) * (xd * yd) + (xn * yd + yn * xd) * (zd * wd)
plus-core xp xn xd yp yn yd zp zn zd wp wn wd h k =
    simp ring (omega (arith, simp ring at (times-eq (yd * wd) h), simp ring at (times-eq (xd * zd) k)))

pub plus-same : {x y a b : Frac} → Same x a → Same y b → Same (plus x y) (plus a b)
plus-same {x} {y} {a} {b} h k =
    record {
      left = mul-pos h.left k.left;
      right = mul-pos h.right k.right;
      cross =
          plus-core x.p x.n x.d y.p y.n y.d a.p a.n a.d b.p b.n b.d h.cross
          k.cross;
    }

times-core : (vp vn vd yp yn yd zp zn zd : ℕ) → yp * zd + zn * yd ≡ zp * yd + yn * zd
    → (vp * yp + vn * yn) * (vd * zd) + (vp * zn + vn * zp) * (vd * yd)
    ≡ (vp * zp + vn * zn) * (vd * yd) + (vp * yn + vn * yp) * (vd * zd)
times-core vp vn vd yp yn yd zp zn zd h =
    simp ring (omega (arith, simp ring at (times-eq (vp * vd) h), simp ring at (times-eq (vn * vd) h)))

times-left : (v : Frac) {y z : Frac} → 0 < v.d → Same y z → Same (times v y) (times v z)
times-left v {y} {z} P h =
    record {
      left = mul-pos P h.left;
      right = mul-pos P h.right;
      cross = times-core v.p v.n v.d y.p y.n y.d z.p z.n z.d h.cross;
    }

pub times-comm : (x y : Frac) → 0 < x.d → 0 < y.d → Same (times x y) (times y x)
times-comm x y X Y = record { left = mul-pos X Y; right = mul-pos Y X; cross = simp ring (omega arith) }

pub times-same : {x y a b : Frac} → Same x a → Same y b → Same (times x y) (times a b)
times-same {x} {y} {a} {b} h k =
    same-trans (times-comm x y h.left k.left) (same-trans (times-left y k.left h)
    (same-trans (times-comm y a k.left h.right) (times-left a h.right k)))

pub plus_comm : (x y : Frac) → 0 < x.d → 0 < y.d → Same (plus x y) (plus y x)
plus_comm x y X Y = record { left = mul-pos X Y; right = mul-pos Y X; cross = simp ring (omega arith) }

pub opp-same : {x y : Frac} → Same x y → Same (opp x) (opp y)
opp-same s = record { left = s.left; right = s.right; cross = omega (arith, s.cross) }

over-core : (b d yp yn yd zp zn zd : ℕ) → yp * zd + zn * yd ≡ zp * yd + yn * zd
    → yp * d * (zd * b) + zn * d * (yd * b) ≡ zp * d * (yd * b) + yn * d * (zd * b)
over-core b d yp yn yd zp zn zd h = simp ring (simp ring at (times-eq (d * b) h))

pub over-same : {x y : Frac} (b d : ℕ) → 0 < b → Same x y → Same (over x b d) (over y b d)
over-same {x} {y} b d B s =
    record {
      left = mul-pos s.left B;
      right = mul-pos s.right B;
      cross = over-core b d x.p x.n x.d y.p y.n y.d s.cross;
    }

pub plus_nil : (x : Frac) → 0 < x.d → Same (plus x nil) x
plus_nil x X = omega arith

pub times-nil : (x : Frac) → 0 < x.d → Same (times x nil) nil
times-nil x X = omega arith

pub times-one : (x : Frac) → 0 < x.d → Same (times x (frac 1 0 1)) x
times-one x X = omega arith

-- A sum over one denominator.
pub plus-over : (p n p' n' c : ℕ) → 0 < c → Same (plus (frac p n c) (frac p' n' c)) (frac (p + p') (n + n') c)
plus-over p n p' n' c C = record { left = mul-pos C C; right = C; cross = simp ring (omega arith) }
