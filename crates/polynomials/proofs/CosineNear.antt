-- E1. The cosine's polynomial is within 2 ^ -45 of Taylor's fraction through x ^ 20, for |x| ≤ 1. Nine steps of
-- Horner's rule have an error of 101 units of 2 ^ -54, where 512 are allowed. Assumes nothing.
use Prim.Native.Nat.{◌<◌, ◌^◌}
use native.Mathlib.Omega.{arith}
use lib.Dec.{T, lit≤, lit<}
use lib.Ieee.{Float}
use Rattle.rounding_error.specs.Fraction.{Frac, frac, times, Same}
use Rattle.rounding_error.specs.Value.{val, Rounds}
use Rattle.rounding_error.proofs.Same.{same-trans}
use Rattle.rounding_error.proofs.Within.{to, rescale}
use Rattle.rounding_error.proofs.Value.{val_pos}
use Rattle.polynomials.specs.Taylor.{factorial, power, cosine_fraction}
use Rattle.polynomials.specs.Horner.{cosine_steps, cosine_near}
use Rattle.polynomials.specs.Range.{at_most}
use Rattle.polynomials.proofs.Nested.{nested, alternates}
use Rattle.polynomials.proofs.Horner.{cost, last}
use Rattle.polynomials.proofs.Squares.{squared, in-square}

pub once : (y : Frac) → 0 < y.d → Same y (times (frac 1 0 1) y)
once y P = omega arith

pub cosine-close : (x : Float) → T (at_most 1 x) → Rounds (2 ^ 45) 1 (cosine_near x) (cosine_fraction (val x))
unfolding cosine_near cost last factorial power
cosine-close x h =
    let w = in-square x h 0 cosine_steps 10 1 (lit< tt) (lit≤ tt) (lit≤ tt) in
    record {
      real = w.real;
      near =
          rescale (lit< tt) (lit≤ tt)
          (to (same-trans (once (nested 2 (squared x) 0 10) w.near.right) (alternates (val x) 0 10 (val_pos x)))
          w.near);
    }
