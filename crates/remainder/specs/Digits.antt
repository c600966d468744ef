-- What the private function `divided` needs. Definitions only.
use Rattle.std.specs.Prelude.{T, Float}
use Rattle.std.specs.Float.Ieee.{le}
use Rattle.std.specs.Float.Ieee.Positive.{positive}

-- Both numbers are finite and above zero, and the second is at most as large as the first.
pub record Divided (a b : Float) : Type 0 where
  pub dividend : T (positive a)
  pub divisor : T (positive b)
  pub order : T (le b a)
