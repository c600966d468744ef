-- K4, K5. The result of `fused64::fused64` is a * b + c, exact and rounded once: the nearest value, a tie to even, and
-- infinite from the midpoint above the largest value on. By its contract and the law over the format. Assumes nothing.
use Rattle.std.proofs.Common.{◌≡◌, ℕ, ◌<◌, Bool}
use lib.Ieee.{Float, binary64}
use Rattle.rounding.specs.Operations.{fused}
use Rattle.rounding.specs.Nearest.{RoundedOnce, ExactFused}
use Rattle.rounding.proofs.FusedOnce.{fused-nearest}

pub once : (a b c r : Float) (s : Bool) (num den : ℕ) → r ≡ fused binary64 a b c → 0 < den → ExactFused a b c s num den
    → RoundedOnce binary64 s num den r
once a b c r s num den e D h = rw e (fused-nearest binary64 a b c s num den D h)
