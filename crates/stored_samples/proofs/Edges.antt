-- W2d, W2e. Both sides of every end, ties, the smallest numbers and what is no number, computed from the definitions
-- that the contracts cite: a word, or none if the sample does not fit. Assumes nothing.
use mathlib.Core.Path.{◌≡◌, refl}
use mathlib.Core.Bool.{cond}
use mathlib.Core.List.{[], ◌∷◌, map}
use Prim.Native.Nat.{ℕ}
use lib.Ieee.{binary64, of_bits, round, to_bits}
use Rattle.rounding.specs.Operations.{narrowed}
use Rattle.sample_kind.specs.declared.SampleKind.{SampleKind}
use Rattle.sample_kind.specs.declared.SampleKind.TheVariants.{Pcm16, Pcm24, Float32}
use Rattle.stored_samples.specs.Stored.{nearest_whole, fits_whole, fits_in, word_of}

-- What the f64 with a pattern is stored as.
pub data Stored : Type 0 where
  word : ℕ → Stored
  none : Stored

abbrev pub stored_as : SampleKind → ℕ → Stored
stored_as kind b = cond (fits_in kind (of_bits binary64 b)) (word (word_of kind (of_bits binary64 b))) none

-- Neither a NaN, an infinity, 2^1023 nor 1.0 is stored as PCM; -1.0 is the least number.
pub outside : map (stored_as Pcm16)
    (0x7ff8_0000_0000_0000 ∷ 0x7ff0_0000_0000_0000 ∷ 0xfff0_0000_0000_0000 ∷ 0x7fe0_0000_0000_0000
    ∷ 0x3ff0_0000_0000_0000 ∷ 0xbff0_0000_0000_0000 ∷ [])
    ≡ none ∷ none ∷ none ∷ none ∷ none ∷ word 0x8000 ∷ []
unfolding of_bits fits_whole nearest_whole
outside = refl

-- 1 - 2^-16 is a tie that goes up and does not fit, and the f64 below it fits; -1 - 2^-16 is a tie that fits, and the
-- f64 below it does not.
pub ends16 : map (stored_as Pcm16)
    (0x3fef_ffe0_0000_0000 ∷ 0x3fef_ffdf_ffff_ffff ∷ 0xbff0_0010_0000_0000 ∷ 0xbff0_0010_0000_0001 ∷ [])
    ≡ none ∷ word 0x7fff ∷ word 0x8000 ∷ none ∷ []
unfolding of_bits fits_whole nearest_whole
ends16 = refl

-- The same for 1 - 2^-24 and -1 - 2^-24, and for ±1.0.
pub ends24 : map (stored_as Pcm24)
    (0x3fef_ffff_e000_0000 ∷ 0x3fef_ffff_dfff_ffff ∷ 0xbff0_0000_1000_0000 ∷ 0xbff0_0000_1000_0001
    ∷ 0x3ff0_0000_0000_0000 ∷ 0xbff0_0000_0000_0000 ∷ [])
    ≡ none ∷ word 0x7f_ffff ∷ word 0x80_0000 ∷ none ∷ none ∷ word 0x80_0000 ∷ []
unfolding of_bits fits_whole nearest_whole
ends24 = refl

-- Half a unit is stored as 0, one and a half as 2, their negatives as 0 and -2; -0.0 and the smallest numbers as 0. A
-- little more than half a unit is 1; rounded to an f32 first it would be the half, and then 0.
pub ties : map (stored_as Pcm16)
    (0x3ef0_0000_0000_0000 ∷ 0x3f08_0000_0000_0000 ∷ 0xbef0_0000_0000_0000 ∷ 0xbf08_0000_0000_0000
    ∷ 0x8000_0000_0000_0000 ∷ 1 ∷ 0x8000_0000_0000_0001 ∷ 0x3ef0_0000_0004_0000 ∷ [])
    ≡ word 0 ∷ word 2 ∷ word 0 ∷ word 0xfffe ∷ word 0 ∷ word 0 ∷ word 0 ∷ word 1 ∷ []
unfolding of_bits fits_whole nearest_whole
ties = refl

-- The largest f32; the f64 below the midpoint above it, with either sign; the midpoint; 2^1023; an infinity; a NaN.
pub ends-float : map (stored_as Float32)
    (0x47ef_ffff_e000_0000 ∷ 0x47ef_ffff_efff_ffff ∷ 0xc7ef_ffff_efff_ffff ∷ 0x47ef_ffff_f000_0000
    ∷ 0xc7ef_ffff_f000_0000 ∷ 0x7fe0_0000_0000_0000 ∷ 0x7ff0_0000_0000_0000 ∷ 0x7ff8_0000_0000_0000 ∷ [])
    ≡ word 0x7f7f_ffff ∷ word 0x7f7f_ffff ∷ word 0xff7f_ffff ∷ none ∷ none ∷ none ∷ none ∷ none ∷ []
unfolding of_bits narrowed round to_bits
ends-float = refl

-- -0.0 keeps its sign, and so does what is rounded to it; half the smallest f32 is 0, and what lies above that is the
-- smallest.
pub small-floats : map (stored_as Float32)
    (0x8000_0000_0000_0000 ∷ 0x8000_0000_0000_0001 ∷ 0x3690_0000_0000_0000 ∷ 0x3690_0000_0000_0001 ∷ [])
    ≡ word 0x8000_0000 ∷ word 0x8000_0000 ∷ word 0 ∷ word 1 ∷ []
unfolding of_bits narrowed round to_bits
small-floats = refl
