-- Which operations keep the order, and where. A sum grows with either part. A product with a first factor that is not
-- negative grows with both factors if the second is not negative either, and shrinks as the first grows if the second
-- is not positive. A quotient grows as its divisor shrinks. Assumes nothing.
use mathlib.Core.Path.{◌≡◌}
use Prim.Native.Nat.{◌*◌, ◌<◌}
use native.Mathlib.Nat.{mul-le-mul_right, mul-pos}
use native.Mathlib.Omega.{arith}
use lib.Dec.{T}
use lib.Ieee.{Float, Format, add, mul, div, le}
use lib.Ieee.Positive.{den, den_pos}
use Rattle.interval.proofs.Signed.{ring, gain, loss, Ordered, bound}
use Rattle.interval.proofs.Operations.{in_order, added, multiplied, divided}

pub sum-grows : (f : Format) {x x' y y' : Float} → Ordered x x' → Ordered y y' → T (le (add f x y) (add f x' y'))
sum-grows f {x} {x'} {y} {y'} u v =
    in_order f _ _ (den x * den y) _ _ (den x' * den y') (mul-pos (den_pos x) (den_pos y))
    (mul-pos (den_pos x') (den_pos y')) (added f x y u.first v.first) (added f x' y' u.second v.second)
    (simp ring (omega (
      arith,
      simp ring at (mul-le-mul_right (den y * den y') (bound u)),
      simp ring at (mul-le-mul_right (den x * den x') (bound v)),
    )))

pub product-grows : (f : Format) {x x' y y' : Float} → Ordered x x' → Ordered y y' → loss x ≡ 0 → loss x' ≡ 0
    → loss y' ≡ 0 → T (le (mul f x y) (mul f x' y'))
product-grows f {x} {x'} {y} {y'} u v n n' z =
    in_order f _ _ (den x * den y) _ _ (den x' * den y') (mul-pos (den_pos x) (den_pos y))
    (mul-pos (den_pos x') (den_pos y')) (multiplied f x y u.first v.first)
    (multiplied f x' y' u.second v.second)
    (rw (n, n', z)
    (simp ring (omega (
      arith,
      simp ring at (mul-le-mul_right (gain x * den x') (rw z at (bound v))),
      simp ring at (mul-le-mul_right (gain y' * den y) (rw (n, n') at (bound u))),
    ))))

pub product-shrinks : (f : Format) {x x' y y' : Float} → Ordered x x' → Ordered y y' → loss x ≡ 0 → loss x' ≡ 0
    → gain y ≡ 0 → T (le (mul f x' y) (mul f x y'))
product-shrinks f {x} {x'} {y} {y'} u v n n' z =
    in_order f _ _ (den x' * den y) _ _ (den x * den y') (mul-pos (den_pos x') (den_pos y))
    (mul-pos (den_pos x) (den_pos y')) (multiplied f x' y u.second v.first)
    (multiplied f x y' u.first v.second)
    (rw (n, n', z)
    (simp ring (omega (
      arith,
      simp ring at (mul-le-mul_right (gain x * den x') (rw z at (bound v))),
      simp ring at (mul-le-mul_right (loss y * den y') (rw (n, n') at (bound u))),
    ))))

pub quotient-grows : (f : Format) {x x' y y' : Float} → Ordered x x' → Ordered y' y → loss x ≡ 0 → loss x' ≡ 0
    → loss y' ≡ 0 → loss y ≡ 0 → 0 < gain y' → 0 < gain y → T (le (div f x y) (div f x' y'))
quotient-grows f {x} {x'} {y} {y'} u v n n' z' z g' g =
    in_order f _ _ (gain y * den x) _ _ (gain y' * den x') (mul-pos g (den_pos x)) (mul-pos g' (den_pos x'))
    (divided f x y u.first v.second g) (divided f x' y' u.second v.first g')
    (rw (n, n')
    (simp ring (omega (
      arith,
      simp ring at (mul-le-mul_right (gain y' * den y) (rw (n, n') at (bound u))),
      simp ring at (mul-le-mul_right (gain x' * den x) (rw (z, z') at (bound v))),
    ))))
