-- G3. The range of a position. Definitions only.
use Rattle.std.specs.Prelude.{Bool, ◌&&◌, Float}
use Rattle.std.specs.Float.Ieee.{le}
use Rattle.constants.specs.Numbers.{limit-f, minus-limit-f}

-- A position is finite and lies from -2^36 to 2^36.
abbrev pub position_ok : Float → Bool
position_ok p = le minus-limit-f p && le p limit-f
