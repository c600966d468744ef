-- A stretch begins no later than the next one. Assumes nothing.
use mathlib.Core.Path.{◌≡◌, refl}
use mathlib.Core.Bool.{Bool, true, false, cond}
use Prim.Native.Nat.{ℕ, ◌+◌, ◌*◌, ◌/◌, ◌≤◌}
use native.Mathlib.Nat.{le_trans, div-mul-le_self, le-div_iff_mul-le, pos_of_ne-zero}
use native.Mathlib.Omega.{arith}
use borrow.Author.Tests.{eqb-false}
use lib.Dec.{eqb}
use Rattle.picture.specs.Bars.{edge}

pub onward : (k n : ℕ) → edge k n ≤ edge (k + 1) n
unfolding edge
onward k n = by (eqb n 0) refl
  where
    by : (t : Bool) → eqb n 0 ≡ t → cond t 0 (k * 1000 / n) ≤ cond t 0 ((k + 1) * 1000 / n)
    by true e = omega arith
    by false e =
        (le-div_iff_mul-le (pos_of_ne-zero (eqb-false n 0 e))).1
        (le_trans (div-mul-le_self (k * 1000) n) (omega arith))
