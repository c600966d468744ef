-- W11a. Two or four phases summed in one pass. It is no part of what a filter promises, which stands in
-- Filters.antt. Definitions only.
use Rattle.std.specs.Prelude.{ℕ, ◌+◌, ◌*◌, cond, ◌&&◌, List, ltb, length, Float}
use Rattle.fir_filter.specs.declared.Two.{Two}
use Rattle.fir_filter.specs.declared.Four.{Four}
use Rattle.fir_filter.specs.Filters.{coefficient_at, lagged}
use Rattle.fir_filter.specs.Runs.{plain_to}

abbrev pub two_of : Float → Float → Two
two_of first second = record { first = first; second = second }

abbrev pub four_of : Float → Float → Float → Float → Four
four_of first second third fourth = record { first = first; second = second; third = third; fourth = fourth }

-- Behind the lags that all of these phases have, one that is not the last may have one more.
abbrev pub last_of : List Float → List Float → ℕ → ℕ → ℕ → ℕ → Float → Float
last_of coefficients history head step phase lag sum =
    cond (ltb lag (length history) && ltb (lag * step + phase) (length coefficients))
    (plain_to (coefficient_at coefficients step phase lag) (lagged history head lag) sum) sum
