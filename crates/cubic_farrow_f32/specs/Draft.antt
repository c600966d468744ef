-- K3, K4. 000's cubic_sample_f32, which Draft reads: CubicFarrow's weights and their sum in single precision.
-- Definitions only.
use Rattle.std.specs.Prelude.{ℕ, cond, List, pos, ◌+ℤ◌, ◌-ℤ◌, Float}
use Rattle.std.specs.Float.{binary32}
use Rattle.constants.specs.Numbers.{zero-f}
use Rattle.rounding.specs.Operations.{narrowed}
use Rattle.ring.specs.Taps.{tap_of}
use Rattle.ring.specs.Places.{position_ok}
use Rattle.integer_part.specs.Parts.{floor_of, fraction_of}
use Rattle.cubic_farrow.specs.Cubic.{weighed}

-- K3. The reading at a position with the integer part i, from the taps i - 1 to i + 2. The fraction is computed in f64
-- and then rounded to f32.
unfoldable pub draft_at : List Float → ℕ → Float → Float
draft_at xs count p =
    let i = floor_of p in
    weighed binary32 (narrowed (fraction_of p)) (tap_of xs count (i -ℤ pos 1)) (tap_of xs count i)
    (tap_of xs count (i +ℤ pos 1)) (tap_of xs count (i +ℤ pos 2))

-- G3. Outside the range of positions the reading is zero.
abbrev pub read_of : List Float → ℕ → Float → Float
read_of xs count p = cond (position_ok p) (draft_at xs count p) zero-f
