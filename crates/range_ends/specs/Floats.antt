-- Floats by their patterns. The patterns of two neighbouring numbers of one sign differ by 1. Definitions only.
use Rattle.std.specs.Prelude.{ℕ, ◌+◌, ◌-◌, ◌^◌, List, [], ◌∷◌, map, Float}
use Rattle.std.specs.Float.{binary32, binary64}
use Rattle.std.specs.Float.Ieee.{of_bits}

unfoldable pub f32 : ℕ → Float
unfolding of_bits
f32 pattern = of_bits binary32 pattern

unfoldable pub f64 : ℕ → Float
unfolding of_bits
f64 pattern = of_bits binary64 pattern

-- The two infinities and a NaN.
abbrev pub no_numbers : List ℕ
no_numbers = 0x7ff0_0000_0000_0000 ∷ 0xfff0_0000_0000_0000 ∷ 0x7ff8_0000_0000_0000 ∷ []

-- The numbers 0.0, 1.0 and 8000.0; 2^36 and the number next above it.
abbrev pub zero : Float
zero = f64 0

abbrev pub one : Float
one = f64 0x3ff0_0000_0000_0000

abbrev pub rate-8000 : Float
rate-8000 = f64 0x40bf_4000_0000_0000

abbrev pub limit : Float
limit = f64 0x4230_0000_0000_0000

abbrev pub above-limit : Float
above-limit = f64 0x4230_0000_0000_0001

-- The numbers about the ends of the range from -x to x: x, the number next above it, -x, the number next below it, both
-- infinities, and a NaN; first as patterns, then as floats.
abbrev pub bits_about : ℕ → List ℕ
bits_about x = x ∷ (x + 1) ∷ (2 ^ 63 + x) ∷ (2 ^ 63 + x + 1) ∷ no_numbers

abbrev pub about : ℕ → List Float
about x = map f64 (bits_about x)

-- The numbers about the ends of the range from low to high, both above zero: the number next below low, low, high, the
-- number next above high.
abbrev pub bits_across : ℕ → ℕ → List ℕ
bits_across low high = (low - 1) ∷ low ∷ high ∷ (high + 1) ∷ no_numbers

abbrev pub across : ℕ → ℕ → List Float
across low high = map f64 (bits_across low high)

-- The numbers about the ends of the range from 0 to high: the number next below zero, -0.0, 0.0, high, the number next
-- above it.
abbrev pub bits_from_zero : ℕ → List ℕ
bits_from_zero high = (2 ^ 63 + 1) ∷ (2 ^ 63) ∷ 0 ∷ high ∷ (high + 1) ∷ no_numbers

abbrev pub from_zero : ℕ → List Float
from_zero high = map f64 (bits_from_zero high)

-- The largest finite numbers of both signs, then the infinities and a NaN.
abbrev pub finite_ends : List Float
finite_ends = map f64 (0x7fef_ffff_ffff_ffff ∷ 0xffef_ffff_ffff_ffff ∷ no_numbers)

abbrev pub finite_ends_f32 : List Float
finite_ends_f32 = map f32 (0x7f7f_ffff ∷ 0xff7f_ffff ∷ 0x7f80_0000 ∷ 0xff80_0000 ∷ 0x7fc0_0000 ∷ [])
