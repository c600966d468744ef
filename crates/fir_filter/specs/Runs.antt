-- W11a. How a filter's sum is worked out: a history is two straight runs, and a lag without a coefficient is not
-- visited. It is no part of what a filter promises, which stands in Filters.antt. Definitions only.
use Rattle.std.specs.Prelude.{ℕ, ◌+◌, ◌-◌, ◌*◌, ◌≤◌, ◌<◌, List, get_or, Float}
use Rattle.std.specs.Float.{nan, binary64}
use Rattle.std.specs.Float.Ieee.{add, mul}
use Rattle.constants.specs.Numbers.{zero-f}
use Rattle.loop_laws.specs.Loops.{fold}
use Rattle.fir_filter.specs.Filters.{coefficient_at, lagged}

-- A sum that meets every coefficient, those of 0.0 too.
abbrev pub plain_to : Float → Float → Float → Float
plain_to coefficient sample sum = add binary64 sum (mul binary64 coefficient sample)

-- n turns of a run: the coefficients go up from an index by a step, the samples go down from below `above`.
abbrev pub run_of : (Float → Float → Float → Float) → List Float → List Float → ℕ → ℕ → ℕ → Float → ℕ → Float
run_of to coefficients history index step above start n =
    fold
    (λ (j : ℕ) (sum : Float). to (get_or coefficients (index + j * step) zero-f) (get_or history (above - 1 - j) nan)
    sum)
    start n

-- n is the number of lags below `len` that have a coefficient: the index of each is below the number of taps, and
-- those of the others are not.
pub record Lags (taps len step phase n : ℕ) : Type 0 where
  pub most : n ≤ len
  pub inside : (j : ℕ) → j < n → j * step + phase < taps
  pub beyond : (j : ℕ) → n ≤ j → j < len → taps ≤ j * step + phase

-- What a run may visit: samples of the history, and coefficients that are there.
pub record Visits (taps len index step above count : ℕ) : Type 0 where
  pub high : above ≤ len
  pub few : count ≤ above
  pub short : step ≤ taps
  pub inside : (j : ℕ) → j < count → index + j * step < taps

-- The sum over the first n lags.
abbrev pub lags_sum : (Float → Float → Float → Float) → List Float → List Float → ℕ → ℕ → ℕ → ℕ → Float
lags_sum to coefficients history pushes step phase n =
    fold
    (λ (lag : ℕ) (sum : Float). to (coefficient_at coefficients step phase lag) (lagged history pushes lag) sum)
    zero-f n

-- What the sum as two runs needs: a head inside the history, a step that cannot overflow, and lags whose samples and
-- coefficients are there.
pub record TwoRuns (taps len head step phase n : ℕ) : Type 0 where
  pub placed : head < len
  pub short : step ≤ taps
  pub most : n ≤ len
  pub inside : (j : ℕ) → j < n → j * step + phase < taps
