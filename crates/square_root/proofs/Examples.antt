-- Roots that are computed by the definition: of 2, of the smallest value, of the largest, of -0, of -1, and of 2 in
-- `f32`. Assumes nothing.
use Rattle.std.proofs.Common.{◌≡◌, refl}
use lib.Ieee.{binary32, binary64, of_bits, nan}
use Rattle.rounding.specs.Operations.{root}

two : root binary64 (of_bits binary64 0x4000_0000_0000_0000) ≡ of_bits binary64 0x3ff6_a09e_667f_3bcd
unfolding root of_bits
two = refl

least : root binary64 (of_bits binary64 1) ≡ of_bits binary64 0x1e60_0000_0000_0000
unfolding root of_bits
least = refl

largest : root binary64 (of_bits binary64 0x7fef_ffff_ffff_ffff) ≡ of_bits binary64 0x5fef_ffff_ffff_ffff
unfolding root of_bits
largest = refl

minus-zero : root binary64 (of_bits binary64 0x8000_0000_0000_0000) ≡ of_bits binary64 0x8000_0000_0000_0000
unfolding root of_bits
minus-zero = refl

minus_one : root binary64 (of_bits binary64 0xbff0_0000_0000_0000) ≡ nan
unfolding root of_bits
minus_one = refl

two-32 : root binary32 (of_bits binary32 0x4000_0000) ≡ of_bits binary32 0x3fb5_04f3
unfolding root of_bits
two-32 = refl
