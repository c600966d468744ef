-- The range of the numbers that a function accepts. Definitions only.
use Rattle.std.specs.Prelude.{Bool, false, ℕ, ◌*◌, leb, Float}
use Rattle.std.specs.Float.{nan, inf, fin}
use Rattle.std.specs.Float.Ieee.{up, down}

-- x is a number of magnitude at most b.
abbrev pub at_most : ℕ → Float → Bool
at_most b nan = false
at_most b (inf s) = false
at_most b (fin s m e) = leb (m * up e) (b * down e)
