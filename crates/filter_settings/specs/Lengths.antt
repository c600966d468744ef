-- W11a, W11j. How many samples a filter holds, and by how many it delays. Definitions only.
use Rattle.std.specs.Prelude.{ℕ, ◌+◌, ◌-◌, ◌/◌, false, cond, ◌&&◌, ◌||◌, eqb, pos, Float}
use Rattle.std.specs.Float.{fin, binary64}
use Rattle.std.specs.Float.Ieee.{div, of_int}
use Rattle.constants.specs.Numbers.{zero-f}
use Rattle.filter_settings.specs.Ranges.{taps_ok, factor_ok}

-- In 000: `prototype.len().div_ceil(FACTOR)`. A decimating filter holds as many samples as it has taps, because its
-- factor is 1.
abbrev pub history_length : ℕ → ℕ → ℕ
history_length taps factor = (taps + (factor - 1)) / factor

-- The history's length for taps and a factor in range, 1 for the decimating filter included, and 0 for others.
abbrev pub history_for : ℕ → ℕ → ℕ
history_for taps factor = cond (taps_ok taps && (eqb factor 1 || factor_ok factor)) (history_length taps factor) 0

-- W11j. In 000: `(taps - 1) as f64 / FACTOR as f64`.
abbrev pub latency_of : ℕ → ℕ → Float
latency_of taps factor = div binary64 (of_int binary64 (pos (taps - 1))) (of_int binary64 (pos factor))

-- The latency for taps and a factor in range, and 0.0 for others.
abbrev pub latency_for : ℕ → ℕ → Float
latency_for taps factor = cond (taps_ok taps && factor_ok factor) (latency_of taps factor) zero-f

-- The cascade's, of both stages in host samples: 64.0.
abbrev pub cascade_latency : Float
cascade_latency = fin false 1 (pos 6)
