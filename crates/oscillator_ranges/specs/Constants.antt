-- The numbers of 001, each by its bit pattern, with 001's spelling above it. A quotient of two literals is rounded
-- once. Definitions only.
use Rattle.std.specs.Prelude.{from_bits, Float}
use Rattle.std.specs.Float.{binary64}
use Rattle.std.specs.Float.Ieee.{div}
pub use Rattle.constants.specs.Numbers.{zero_bits as zero, one-bits as one}

-- `std::f64::consts::TAU`.
abbrev pub tau : Float
tau = from_bits binary64 0x4019_21fb_5444_2d18

-- `std::f64::consts::SQRT_2`.
abbrev pub sqrt2 : Float
sqrt2 = from_bits binary64 0x3ff6_a09e_667f_3bcd

-- `3.0` and `5.0`.
abbrev pub three : Float
three = from_bits binary64 0x4008_0000_0000_0000

abbrev pub five : Float
five = from_bits binary64 0x4014_0000_0000_0000

-- `0.001`, the slowest rate that is not raised.
abbrev pub slowest : Float
slowest = from_bits binary64 0x3f50_624d_d2f1_a9fc

-- `1200.0`, the cents of an octave.
abbrev pub octave : Float
octave = from_bits binary64 0x4092_c000_0000_0000

-- `MAX_SHAPE_PRIMITIVE`, 7.0 / 6.0.
abbrev pub max_shape_primitive : Float
max_shape_primitive = div binary64 (from_bits binary64 0x401c_0000_0000_0000) (from_bits binary64 0x4018_0000_0000_0000)

-- `1.125` and `0.125 / 3.0`, the weights of the rounded square's cosines.
abbrev pub square_first : Float
square_first = from_bits binary64 0x3ff2_0000_0000_0000

abbrev pub square_third : Float
square_third = div binary64 (from_bits binary64 0x3fc0_0000_0000_0000) three

-- `27.0`, `125.0` and `TRIANGLE_NORMALIZATION`, 259.0 / 225.0.
abbrev pub triangle_third : Float
triangle_third = from_bits binary64 0x403b_0000_0000_0000

abbrev pub triangle_fifth : Float
triangle_fifth = from_bits binary64 0x405f_4000_0000_0000

abbrev pub triangle_normalization : Float
triangle_normalization = div binary64 (from_bits binary64 0x4070_3000_0000_0000)
    (from_bits binary64 0x406c_2000_0000_0000)
