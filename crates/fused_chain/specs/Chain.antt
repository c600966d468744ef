-- K4, K5. One turn of 000's f32 loop, each operation rounded once, and the loop over a run. Definitions only.
use Rattle.std.specs.Prelude.{ℕ, min, List, slice_index_or, Float}
use Rattle.std.specs.Float.{nan, binary32}
use Rattle.std.specs.Float.Ieee.{add, sub, mul}
use Rattle.loop_laws.specs.Loops.{fold}
use Rattle.rounding.specs.Operations.{fused}

-- 000's coefficient is `row0[k] + blend * (row1[k] - row0[k])`.
abbrev pub coefficient_of : Float → Float → Float → Float
coefficient_of blend a b = add binary32 a (mul binary32 blend (sub binary32 b a))

-- 000's turn is `sum = x[k].mul_add(coefficient, sum)`.
abbrev pub turn_of : List Float → List Float → List Float → Float → ℕ → Float → Float
turn_of xs row0 row1 blend k sum =
    fused binary32 (slice_index_or xs k nan)
    (coefficient_of blend (slice_index_or row0 k nan) (slice_index_or row1 k nan)) sum

-- The sum after n turns that start from a given sum.
abbrev pub chain_of : List Float → List Float → List Float → Float → Float → ℕ → Float
chain_of xs row0 row1 blend sum n = fold (turn_of xs row0 row1 blend) sum n

-- The run is as long as the shortest of the three lists.
abbrev pub run_length : ℕ → ℕ → ℕ → ℕ
run_length a b c = min a (min b c)
