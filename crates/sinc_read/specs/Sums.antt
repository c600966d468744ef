-- K4. One round of 000's sum in f64. Definitions only.
use Rattle.std.specs.Prelude.{ℕ, ◌+◌, List, get_or, Float}
use Rattle.std.specs.Float.{nan, binary64}
use Rattle.std.specs.Float.Ieee.{add, sub, mul}
use Rattle.sinc_phases.specs.Phases.{coefficient_at}

-- In 000: `sum += x * coefficient`, where x k is the sample of tap k.
abbrev pub tap_turn : (ℕ → Float) → List Float → Float → ℕ → ℕ → ℕ → Float → Float
tap_turn x table blend taps phase k sum =
    add binary64 sum (mul binary64 (x k) (coefficient_at binary64 table blend taps phase k))

-- The same where the samples and both rows lie side by side: the samples from `place` on, the rows from the elements
-- `row` and `next` of the table on.
abbrev pub run_turn : List Float → ℕ → ℕ → Float → List Float → ℕ → ℕ → Float → Float
run_turn table row next blend xs place k sum =
    let a = get_or table (row + k) nan in
    add binary64 sum (mul binary64 (get_or xs (place + k) nan)
    (add binary64 a (mul binary64 blend (sub binary64 (get_or table (next + k) nan) a))))
