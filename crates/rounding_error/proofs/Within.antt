-- |x - y| ≤ e / g. Such bounds add up along a chain and in a sum, hold for equal numbers, and can be given in another
-- unit. Each is two one-sided inequalities between cross products, multiplied out. Assumes nothing.
use mathlib.Core.Path.{sym}
use Prim.Native.Nat.{ℕ, ◌+◌, ◌*◌, ◌≤◌, ◌<◌}
use native.Mathlib.Nat.{add_comm, add-zero, zero-add, le_of_eq, mul-le-mul_right, mul-pos, le_of_mul-le-mul_right}
use native.Mathlib.Omega.{arith}
use Rattle.rounding_error.specs.Fraction.{Frac, nil, plus, opp, Upto, Same, Within}
use Rattle.rounding_error.proofs.Same.{ring, same_refl, plus_nil}

pub flip : {g e : ℕ} {x y : Frac} → Within g e x y → Within g e y x
flip w = record { left = w.right; right = w.left; above = w.below; below = w.above }

-- ---- a larger bound, another unit
weaken-core : (e e' : ℕ) (A B C : ℕ) → e ≤ e' → A ≤ B + e * C → A ≤ B + e' * C
weaken-core e e' A B C l h = omega (arith, mul-le-mul_right C l)

pub weaken : {g e e' : ℕ} {x y : Frac} → e ≤ e' → Within g e x y → Within g e' x y
weaken {g} {e} {e'} {x} {y} l w =
    record {
      left = w.left;
      right = w.right;
      above =
          weaken-core e e' (g * (x.p * y.d + y.n * x.d)) (g * (y.p * x.d + x.n * y.d)) (x.d * y.d) l
          w.above;
      below =
          weaken-core e e' (g * (y.p * x.d + x.n * y.d)) (g * (x.p * y.d + y.n * x.d)) (y.d * x.d) l
          w.below;
    }

scale-core : (g e g' e' A B C : ℕ) → e * g' ≤ e' * g → g * A ≤ g * B + e * C → g' * A * g ≤ (g' * B + e' * C) * g
scale-core g e g' e' A B C l h =
    simp ring (omega (arith, simp ring at (mul-le-mul_right g' h), simp ring at (mul-le-mul_right C l)))

pub rescale : {g e g' e' : ℕ} {x y : Frac} → 0 < g → e * g' ≤ e' * g → Within g e x y → Within g' e' x y
rescale {g} {e} {g'} {e'} {x} {y} G l w =
    record {
      left = w.left;
      right = w.right;
      above =
          le_of_mul-le-mul_right
          (scale-core g e g' e' (x.p * y.d + y.n * x.d) (y.p * x.d + x.n * y.d) (x.d * y.d) l w.above) G;
      below =
          le_of_mul-le-mul_right
          (scale-core g e g' e' (y.p * x.d + x.n * y.d) (x.p * y.d + y.n * x.d) (y.d * x.d) l w.below) G;
    }

-- ---- a chain
chain-core : (g e e' xp xn xd yp yn yd zp zn zd : ℕ) → g * (xp * yd + yn * xd) ≤ g * (yp * xd + xn * yd) + e * (xd * yd)
    → g * (yp * zd + zn * yd) ≤ g * (zp * yd + yn * zd) + e' * (yd * zd)
    → g * (xp * zd + zn * xd) * yd ≤ (g * (zp * xd + xn * zd) + (e + e') * (xd * zd)) * yd
chain-core g e e' xp xn xd yp yn yd zp zn zd h k =
    simp ring (omega (arith, simp ring at (mul-le-mul_right zd h), simp ring at (mul-le-mul_right xd k)))

one_way : (g e e' : ℕ) (x y z : Frac) → 0 < y.d → Upto g e x y → Upto g e' y z → Upto g (e + e') x z
one_way g e e' x y z D h k =
    le_of_mul-le-mul_right (chain-core g e e' x.p x.n x.d y.p y.n y.d z.p z.n z.d h k) D

pub chain : {g e e' : ℕ} {x y z : Frac} → Within g e x y → Within g e' y z → Within g (e + e') x z
chain {g} {e} {e'} {x} {y} {z} h k =
    record {
      left = h.left;
      right = k.right;
      above = one_way g e e' x y z h.right h.above k.above;
      below = rw (add_comm e e') (one_way g e' e z y x h.right k.below h.below);
    }

-- ---- equal numbers
pub same-within : {x y : Frac} (g : ℕ) → Same x y → Within g 0 x y
same-within g s =
    record {
      left = s.left;
      right = s.right;
      above = omega (arith, mul-le-mul_right g (le_of_eq s.cross));
      below = omega (arith, mul-le-mul_right g (le_of_eq (sym s.cross)));
    }

pub to : {g e : ℕ} {x y z : Frac} → Same y z → Within g e x y → Within g e x z
to {g} {e} s w = rw (add-zero e) at (chain w (same-within g s))

pub from : {g e : ℕ} {x y z : Frac} → Same y x → Within g e y z → Within g e x z
from s w = flip (to s (flip w))

-- ---- sums and opposites
plus-core : (g e e' xp xn xd yp yn yd ap an ad bp bn bd : ℕ)
    → g * (xp * ad + an * xd) ≤ g * (ap * xd + xn * ad) + e * (xd * ad)
    → g * (yp * bd + bn * yd) ≤ g * (bp * yd + yn * bd) + e' * (yd * bd)
    → g * ((xp * yd + yp * xd) * (ad * bd) + (an * bd + bn * ad) * (xd * yd))
    ≤ g * ((ap * bd + bp * ad) * (xd * yd) + (xn * yd + yn * xd) * (ad * bd)) + (e + e') * ((xd * yd) * (ad * bd))
plus-core g e e' xp xn xd yp yn yd ap an ad bp bn bd h k =
    simp ring (omega (arith, simp ring at (mul-le-mul_right (yd * bd) h), simp ring at (mul-le-mul_right (xd * ad) k)))

pub within-plus : {g e e' : ℕ} {x y a b : Frac} → Within g e x a → Within g e' y b
    → Within g (e + e') (plus x y) (plus a b)
within-plus {g} {e} {e'} {x} {y} {a} {b} h k =
    record {
      left = mul-pos h.left k.left;
      right = mul-pos h.right k.right;
      above =
          plus-core g e e' x.p x.n x.d y.p y.n y.d a.p a.n a.d b.p b.n b.d
          h.above k.above;
      below =
          plus-core g e e' a.p a.n a.d b.p b.n b.d x.p x.n x.d y.p y.n y.d
          h.below k.below;
    }

-- c + t is as far from c as t is large.
pub beside : {g e : ℕ} {t : Frac} (c : Frac) → 0 < c.d → Within g e t nil → Within g e (plus c t) c
beside {g} {e} c C w = to (plus_nil c C) (rw (zero-add e) at (within-plus (same-within g (same_refl {x = c} C)) w))

pub within-opp : {g e : ℕ} {x y : Frac} → Within g e x y → Within g e (opp x) (opp y)
within-opp w =
    record { left = w.left; right = w.right; above = omega (arith, w.below); below = omega (arith, w.above) }
