-- M3. The numbers that 001 makes of a draw, in its order, each operation rounded once. Definitions only.
use Rattle.std.specs.Prelude.{ℕ, ◌/◌, ◌^◌, pos, Float}
use Rattle.std.specs.Float.{binary64}
use Rattle.std.specs.Float.Ieee.{of_bits, of_int, add, sub, mul, div}
pub use Rattle.constants.specs.Numbers.{zero_bits as zero, one-bits as one, two-bits as two}
use Rattle.xorshift.specs.Xorshift.{value_of}

-- The scale is 1.0 / 2^53.
abbrev pub scale53 : Float
scale53 = div binary64 one (of_bits binary64 0x4340_0000_0000_0000)

-- The f64 nearest to 0.35.
abbrev pub spread : Float
spread = of_bits binary64 0x3fd6_6666_6666_6666

-- The number drawn when the state has become x: the value's 53 highest digits as a number from 0 to 1, then stretched
-- over -1 to 1.
unfoldable pub bipolar_of : ℕ → Float
bipolar_of x =
    let unit = mul binary64 (of_int binary64 (pos (value_of x / 2 ^ 11))) scale53 in
    sub binary64 (mul binary64 unit two) one

-- How fast the next segment is run through.
unfoldable pub scale_of : ℕ → Float
unfolding bipolar_of
scale_of x = add binary64 one (mul binary64 spread (bipolar_of x))
