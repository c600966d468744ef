-- W5c. How many terms the sum that stands for I0 may have: 24 in the ported mode, as in 000, and 64 in the full mode.
-- Callers that can only pass numbers call the ported mode 0 and the full one 1. Definitions only.
use Rattle.std.specs.Prelude.{ℕ, zero, suc, Bool, cond, leb, Float}
use Rattle.bessel.specs.declared.Mode.{Mode}
use Rattle.bessel.specs.declared.Mode.TheVariants.{Ported, Full}
use Rattle.bessel.specs.Series.{series_of}

abbrev pub terms_of : Mode → ℕ
terms_of Ported = 24
terms_of Full = 64

abbrev pub sum_in : Mode → Float → Float
sum_in mode x = series_of (terms_of mode) x

-- The ported mode has the number 0, the full one 1.
abbrev pub mode_of : ℕ → Mode
mode_of zero = Ported
mode_of (suc k) = Full

-- N1. Any other number is an argument out of its range and refused by 1.
abbrev pub known_code : ℕ → Bool
known_code code = leb code 1

abbrev pub due_in : ℕ → ℕ → ℕ
due_in code due = cond (known_code code) due 1
