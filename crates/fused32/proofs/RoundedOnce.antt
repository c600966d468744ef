-- K4, K5. The result of `fused32::fused32` is a * b + c, exact and rounded once: the nearest value, a tie to even, and
-- infinite from the midpoint above the largest value on. By its contract and the law over the format. Assumes nothing.
use Rattle.std.proofs.Common.{◌≡◌, ℕ, ◌<◌, Bool}
use lib.Ieee.{Float, binary32}
use Rattle.rounding.specs.Operations.{fused}
use Rattle.rounding.specs.Nearest.{RoundedOnce, ExactFused}
use Rattle.rounding.proofs.FusedOnce.{fused-nearest}

pub once : (a b c r : Float) (s : Bool) (num den : ℕ) → r ≡ fused binary32 a b c → 0 < den → ExactFused a b c s num den
    → RoundedOnce binary32 s num den r
once a b c r s num den e D h = rw e (fused-nearest binary32 a b c s num den D h)
