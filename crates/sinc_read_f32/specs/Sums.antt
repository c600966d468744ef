-- K4, K5. One turn of 000's f32 sum, over any function that gives a tap's sample. Definitions only.
use Rattle.std.specs.Prelude.{ℕ, ◌+◌, List, get_or, Float}
use Rattle.std.specs.Float.{nan, binary32}
use Rattle.rounding.specs.Operations.{fused}
use Rattle.fused_chain.specs.Chain.{coefficient_of}
use Rattle.sinc_phases.specs.Phases.{coefficient_at}

-- 000's `sum = x.mul_add(coefficient, sum)`, where x is the sample of tap k.
abbrev pub tap_turn : (ℕ → Float) → List Float → Float → ℕ → ℕ → ℕ → Float → Float
tap_turn x table blend taps phase k sum = fused binary32 (x k) (coefficient_at binary32 table blend taps phase k) sum

-- The same for a list of samples and for rows that start at two places of the table.
abbrev pub run_turn : List Float → List Float → ℕ → ℕ → Float → ℕ → Float → Float
run_turn samples table row next blend k sum =
    fused binary32 (get_or samples k nan) (coefficient_of blend (get_or table (row + k) nan)
    (get_or table (next + k) nan)) sum
