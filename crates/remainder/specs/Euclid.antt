-- Rust's rem_euclid of f64 by its `%`, which is `lib.Ieee.rem`: x - n * y, where n is x / y cut to a whole number.
-- Definitions only.
use Rattle.std.specs.Prelude.{false, cond}
use lib.Ieee.{Float, nan, inf, fin, binary64, add, rem, lt}
pub use Rattle.constants.specs.Numbers.{zero-f as zero}

-- Rust's f64::abs.
abbrev pub absolute_of : Float → Float
absolute_of nan = nan
absolute_of (inf s) = inf false
absolute_of (fin s m e) = fin false m e

-- In Rust: `let r = self % rhs; if r < 0.0 { r + rhs.abs() } else { r }`.
unfoldable pub rem_euclid : Float → Float → Float
rem_euclid x y = let r = rem binary64 x y in cond (lt r zero) (add binary64 r (absolute_of y)) r
