-- W11a, W11g. 000's PolyphaseUpsampler and DecimatingFir as one filter over a factor and a phase; the decimating one
-- has the factor 1 and the phase 0. Definitions only.
use Rattle.std.specs.Prelude.{ℕ, ◌+◌, ◌-◌, ◌*◌, ◌%◌, ◌^◌, false, cond, List, map, length, get_or, set, Float}
use Rattle.std.specs.Float.{nan, inf, fin, binary64}
use Rattle.std.specs.Float.Ieee.{round, add, mul, lt, eq}
use Rattle.constants.specs.Numbers.{zero-f}
use Rattle.loop_laws.specs.Loops.{fold}

-- Rust's f64::abs.
abbrev pub abs_of : Float → Float
abs_of nan = nan
abs_of (inf s) = inf false
abs_of (fin s m e) = fin false m e

-- In 000's `new`: a coefficient is kept if `coefficient.abs() > 1.0e-15`. One that is left out stands as 0.0.
unfoldable pub kept_of : Float → Float
kept_of c = cond (lt (round binary64 false 1 (10 ^ 15)) (abs_of c)) c zero-f

abbrev pub kept_in : List Float → List Float
kept_in coefficients = map kept_of coefficients

-- In 000's `push` the head moves on by one place, from the last one to the first, and then the sample is written there.
-- So the head is the number of pushes modulo the length, and the first sample goes to place 1.
abbrev pub pushed : List Float → ℕ → Float → List Float
pushed history pushes input = set history ((pushes + 1) % length history) input

-- The sample that was pushed `lag` pushes before the last one; in 000: `(head + history.len() - lag) % history.len()`.
abbrev pub lagged : List Float → ℕ → ℕ → Float
lagged history pushes lag = get_or history ((pushes + length history - lag) % length history) nan

-- In 000's `output`: `output += coefficient * sample`. A coefficient that was left out meets no sample, so that an
-- infinite one makes no NaN.
abbrev pub add_to : Float → Float → Float → Float
add_to coefficient sample sum = cond (eq coefficient zero-f) sum (add binary64 sum (mul binary64 coefficient sample))

-- The coefficient of a lag and a phase. Past the last one there is none to add.
abbrev pub coefficient_at : List Float → ℕ → ℕ → ℕ → Float
coefficient_at coefficients factor phase lag = get_or coefficients (lag * factor + phase) zero-f

-- 000's `output`: the lags ascend from 0, one for each sample that the filter holds.
unfoldable pub output_of : List Float → List Float → ℕ → ℕ → ℕ → Float
output_of coefficients history pushes factor phase =
    fold
    (λ (lag : ℕ) (sum : Float). add_to (coefficient_at coefficients factor phase lag) (lagged history pushes lag) sum)
    zero-f (length history)
