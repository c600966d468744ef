-- P8, and the position of K3 whose fraction is exactly 1, computed from the definitions that the contracts cite.
-- Assumes nothing.
use Rattle.std.proofs.Common.{◌≡◌, negsuc, refl}
use lib.Ieee.{Float, binary64, sub, of_int, of_bits, to_bits}
use Rattle.integer_part.specs.Parts.{floor_of, fraction_of}

-- The position -0.5.
abbrev half-before : Float
half-before = of_bits binary64 0xbfe0_0000_0000_0000

pub p8-integer : floor_of half-before ≡ negsuc 0
unfolding floor_of of_bits
p8-integer = refl

pub p8-fraction : to_bits binary64 (fraction_of half-before) ≡ 0x3fe0_0000_0000_0000
unfolding fraction_of floor_of sub of_int of_bits to_bits
p8-fraction = refl

-- Sample 0 at the delay 1e-300.
pub k3-fraction : to_bits binary64 (fraction_of (of_bits binary64 0x81a5_6e1f_c2f8_f359)) ≡ 0x3ff0_0000_0000_0000
unfolding fraction_of floor_of sub of_int of_bits to_bits
k3-fraction = refl
