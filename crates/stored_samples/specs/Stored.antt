-- W2. One sample as it is stored. PCM of w bits: the nearest whole number of units of 2^(1-w), in two's complement.
-- Float: the nearest f32. A value that does not fit is refused, not clipped. Definitions only.
use Rattle.std.specs.Prelude.{ℕ, suc, ◌-◌, ◌*◌, ◌^◌, Bool, cond, ◌&&◌, ltb, ℤ, pos, negsuc, neg_ℤ, Float}
use Rattle.std.specs.Float.{nan, inf, fin, binary32}
use Rattle.std.specs.Float.Ieee.{up, down, to_bits}
use Rattle.std.specs.Float.Ieee.Nearest.{closest}
use Rattle.std.specs.Float.Ieee.Scale.{finite}
use Rattle.rounding.specs.Operations.{narrowed}
use Rattle.sample_kind.specs.declared.SampleKind.{SampleKind}
use Rattle.sample_kind.specs.declared.SampleKind.TheVariants.{Pcm16, Pcm24, Float32}

-- W2d. The whole number nearest to x · 2^(w-1), the even one if two are as near. A NaN and an infinity have none, and 0
-- stands for it.
unfoldable pub nearest_whole : ℕ → Float → ℤ
nearest_whole w nan = pos 0
nearest_whole w (inf s) = pos 0
nearest_whole w (fin s m e) =
    let n = closest (m * up e * 2 ^ (w - 1)) (down e) in
    cond s (neg_ℤ (pos n)) (pos n)

-- Whether a whole number has w digits in two's complement: it lies from -2^(w-1) to 2^(w-1) - 1.
abbrev pub in_digits : ℕ → ℤ → Bool
in_digits w (pos n) = ltb n (2 ^ (w - 1))
in_digits w (negsuc n) = ltb n (2 ^ (w - 1))

-- The digits in two's complement, as a number below 2^w.
abbrev pub digits_of : ℕ → ℤ → ℕ
digits_of w (pos n) = n
digits_of w (negsuc n) = 2 ^ w - suc n

-- W2e. A sample can be stored if it is a number whose rounded value fits.
unfoldable pub fits_whole : ℕ → Float → Bool
unfolding nearest_whole
fits_whole w x = finite x && in_digits w (nearest_whole w x)

abbrev pub fits_in : SampleKind → Float → Bool
fits_in Pcm16 x = fits_whole 16 x
fits_in Pcm24 x = fits_whole 24 x
fits_in Float32 x = finite (narrowed x)

-- The stored digits of a sample; as bytes, the low ones come first.
abbrev pub digits_in : SampleKind → Float → ℕ
digits_in Pcm16 x = digits_of 16 (nearest_whole 16 x)
digits_in Pcm24 x = digits_of 24 (nearest_whole 24 x)
digits_in Float32 x = to_bits binary32 (narrowed x)

-- The stored word, 0 for a sample that does not fit.
abbrev pub word_of : SampleKind → Float → ℕ
word_of kind x = cond (fits_in kind x) (digits_in kind x) 0
