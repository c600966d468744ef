-- W11a. What an upsampler gives at all phases of a call, worked out at once. It is no part of what a reader promises,
-- which stands in Phases.antt and Reader.antt. Definitions only.
use Rattle.std.specs.Prelude.{◌≡◌, ℕ, ◌<◌, ◌≤◌, cond, List, ◌==◌, Float}
use Rattle.fir_filter.specs.Filters.{output_of}
use Rattle.fir_filter.specs.declared.Four.{Four}

abbrev pub of_phase : Four → ℕ → Float
of_phase four k =
    cond (k == 0) four.first (cond (k == 1) four.second (cond (k == 2) four.third four.fourth))

-- Each phase that there is has the filter's output.
pub record Upsampled (coefficients up : List Float) (pushes factor : ℕ) (four : Four) : Type 0 where
  pub each : (k : ℕ) → k < factor → factor ≤ 4 → of_phase four k ≡ output_of coefficients up pushes factor k
