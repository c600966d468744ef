-- E3, E4, E5. The constants by their bit patterns, 2 ^ 0, 2 ^ 1 and 2 ^ -1, zeros, and the ends of the ranges, all by
-- computing. Assumes nothing.
use Rattle.std.specs.Prelude.{Ok}
use mathlib.Core.Path.{◌≡◌, refl}
use mathlib.Core.List.{[], ◌∷◌, map}
use mathlib.Core.Bool.{true, false}
use lib.IntN.{pos, negsuc}
use lib.Ieee.{fin, nan, inf, binary64, round, of_bits, lt, neg, add, sub, mul}
use Rattle.rounding_error.specs.Value.{val}
use Rattle.polynomials.specs.Horner.{reciprocal, ln2}
use Rattle.elementary.specs.Reduction.{H}
use Rattle.elementary.specs.Answers.{refusal_of, one, two, half, sine_of, cosine_of, exp2_of}
use Rattle.elementary.specs.Steps.{inverse, high_part, low_part, eighth}

-- ---- constants
H-value : val (of_bits binary64 0x3ff9_21fb_5444_2d18) ≡ H
unfolding of_bits
H-value = refl

L-bits : of_bits binary64 0x3fe6_2e42_fefa_39ef ≡ ln2
unfolding of_bits
L-bits = refl

-- The reciprocals 1 / 2! to 1 / 18!.
reciprocals : map reciprocal (2 ∷ 3 ∷ 4 ∷ 5 ∷ 6 ∷ 7 ∷ 8 ∷ 9 ∷ 10 ∷ 11 ∷ 12 ∷ 13 ∷ 14 ∷ 15 ∷ 16 ∷ 17 ∷ 18 ∷ [])
    ≡ map (of_bits binary64)
    (0x3fe0_0000_0000_0000 ∷ 0x3fc5_5555_5555_5555 ∷ 0x3fa5_5555_5555_5555 ∷ 0x3f81_1111_1111_1111
    ∷ 0x3f56_c16c_16c1_6c17 ∷ 0x3f2a_01a0_1a01_a01a ∷ 0x3efa_01a0_1a01_a01a ∷ 0x3ec7_1de3_a556_c734
    ∷ 0x3e92_7e4f_b778_9f5c ∷ 0x3e5a_e645_67f5_44e4 ∷ 0x3e21_eed8_eff8_d898 ∷ 0x3de6_1246_13a8_6d09
    ∷ 0x3da9_3974_a8c0_7c9d ∷ 0x3d6a_e7f3_e733_b81f ∷ 0x3d2a_e7f3_e733_b81f ∷ 0x3ce9_52c7_7030_ad4a
    ∷ 0x3ca6_8278_63b9_7d97 ∷ [])
unfolding reciprocal round of_bits
reciprocals = refl

reduction : inverse ∷ high_part ∷ low_part ∷ eighth ∷ []
    ≡ map (of_bits binary64)
    (0x3fe4_5f30_6dc9_c883 ∷ 0x3ff9_21fb_5000_0000 ∷ 0x3e51_10b4_6000_0000 ∷ 0x3fe9_21fb_5444_2d18 ∷ [])
unfolding of_bits
reduction = refl

-- ---- values
two-to-0 : exp2_of (fin false 0 (pos 0)) ≡ Ok one
unfolding exp2_of round lt neg add sub mul
two-to-0 = refl

two-to-minus-0 : exp2_of (fin true 0 (pos 0)) ≡ Ok one
unfolding exp2_of round lt neg add sub mul
two-to-minus-0 = refl

two-to-1 : exp2_of one ≡ Ok two
unfolding exp2_of round lt neg add sub mul
two-to-1 = refl

two-to-minus-1 : exp2_of (neg one) ≡ Ok half
unfolding exp2_of round lt neg add sub mul
two-to-minus-1 = refl

cosine-0 : cosine_of (fin false 0 (pos 0)) ≡ Ok one
unfolding cosine_of round neg add mul
cosine-0 = refl

-- The sine of a zero keeps its sign.
sine-0 : sine_of (fin false 0 (pos 0)) ≡ Ok (fin false 0 (pos 0))
unfolding sine_of round neg add mul
sine-0 = refl

sine-minus-0 : sine_of (fin true 0 (pos 0)) ≡ Ok (fin true 0 (pos 0))
unfolding sine_of round neg add mul
sine-minus-0 = refl

-- ---- refusals: 256, the next float, the infinities and a NaN
edge : map (λ x. refusal_of (sine_of x))
    (fin false 1 (pos 8) ∷ fin true 1 (pos 8) ∷ fin false 4503599627370497 (negsuc 43) ∷ inf true ∷ nan ∷ [])
    ≡ 0 ∷ 0 ∷ 1 ∷ 1 ∷ 1 ∷ []
unfolding sine_of
edge = refl
