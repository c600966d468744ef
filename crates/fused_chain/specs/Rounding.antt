-- What the parts of a run before the middle promise one another. Definitions only.
use Rattle.std.specs.Prelude.{◌≡◌, T, Float}
use Rattle.std.specs.Float.{binary32}
use Rattle.std.specs.Float.Ieee.Scale.{finite}
use Rattle.rounding.specs.Operations.{fused}
use Rattle.fused_chain.specs.Blocks.{Product}

-- The value r is p + sum rounded once to an f32, where p is the product of any two f32 values.
pub record Nearest (p sum r : Float) : Type 0 where
  pub bounded : T (finite r)
  pub is : (x c : Float) → Product x c p → r ≡ fused binary32 x c sum

-- Four such sums in succession, of which r is the last.
pub record FourNearest (a b c d sum r : Float) : Type 0 where
  pub one : Float
  pub two : Float
  pub three : Float
  pub first : Nearest a sum one
  pub second : Nearest b one two
  pub third : Nearest c two three
  pub fourth : Nearest d three r
