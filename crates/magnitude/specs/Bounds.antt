-- How large a float is. Definitions only.
use Rattle.std.specs.Prelude.{ℕ, ◌*◌, ◌≤◌, Float}
use Rattle.std.specs.Float.{nan, inf, fin}
use Rattle.std.specs.Float.Ieee.{up, down}

-- x is a number, neither a NaN nor an infinity, and its magnitude m * 2 ^ e is at most the whole number b.
abbrev pub AtMost : ℕ → Float → Type 0
AtMost b nan = ⊥
AtMost b (inf s) = ⊥
AtMost b (fin s m e) = m * up e ≤ b * down e
