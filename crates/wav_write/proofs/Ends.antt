-- W2. A write at the ends of its ranges: a buffer of exactly the file's length and one a byte shorter, which of two
-- refusals is given, and a whole file with its pad byte in a longer buffer. By computing. Assumes nothing.
use mathlib.Core.Path.{◌≡◌, refl}
use mathlib.Core.Bool.{false}
use mathlib.Core.List.{[], ◌∷◌}
use lib.IntN.{pos, negsuc}
use lib.Ieee.{Float, nan, fin}
use Rattle.word_bytes.specs.Bytes.{low_bytes}
use Rattle.sample_kind.specs.declared.SampleKind.TheVariants.{Pcm16, Pcm24, Float32}
use Rattle.stored_samples.specs.Stored.{nearest_whole, fits_whole}
use Rattle.wav_store.specs.Storing.{all_fit, bytes_of}
use Rattle.wav_header.specs.Header.{header_of}
use Rattle.long_header.specs.declared.Form.TheVariants.{Rf64}
use Rattle.wav_write.specs.Writing.{verdict, file_of, written}

abbrev half : Float
half = fin false 1 (negsuc 0)

abbrev one : Float
one = fin false 1 (pos 0)

-- ---- 14: the pad byte counts
pub just_enough : verdict Pcm24 1 48000 (half ∷ []) 48 ≡ 0
unfolding all_fit fits_whole nearest_whole
just_enough = refl

pub one_less : verdict Pcm24 1 48000 (half ∷ []) 47 ≡ 14
one_less = refl

pub none-enough : verdict Float32 2 48000 [] 58 ≡ 0
unfolding all_fit
none-enough = refl

pub none-short : verdict Float32 2 48000 [] 57 ≡ 14
none-short = refl

-- ---- two refusals are possible
pub short-and-nan : verdict Pcm16 1 48000 (nan ∷ []) 45 ≡ 14
short-and-nan = refl

pub long-and-nan : verdict Pcm16 1 48000 (nan ∷ []) 46 ≡ 15
unfolding all_fit fits_whole nearest_whole
long-and-nan = refl

pub full-scale : verdict Pcm16 1 48000 (one ∷ []) 46 ≡ 15
unfolding all_fit fits_whole nearest_whole
full-scale = refl

pub short-and-three : verdict Pcm16 3 48000 [] 0 ≡ 13
short-and-three = refl

pub three-and-rate : verdict Pcm16 3 7999 [] 0 ≡ 1
three-and-rate = refl

-- ---- a file of one sample at 8000 Hz, its pad byte, and the last two of a buffer's fifty bytes
pub whole-file : written Rf64 Pcm24 1 8000 (half ∷ [])
    (9 ∷ 9 ∷ 9 ∷ 9 ∷ 9 ∷ 9 ∷ 9 ∷ 9 ∷ 9 ∷ 9 ∷ 9 ∷ 9 ∷ 9 ∷ 9 ∷ 9 ∷ 9 ∷ 9 ∷ 9 ∷ 9 ∷ 9 ∷ 9 ∷ 9 ∷ 9 ∷ 9 ∷ 9 ∷ 9 ∷ 9
    ∷ 9 ∷ 9 ∷ 9 ∷ 9 ∷ 9 ∷ 9 ∷ 9 ∷ 9 ∷ 9 ∷ 9 ∷ 9 ∷ 9 ∷ 9 ∷ 9 ∷ 9 ∷ 9 ∷ 9 ∷ 9 ∷ 9 ∷ 9 ∷ 9 ∷ 9 ∷ 9 ∷ [])
    ≡
    82 ∷ 73 ∷ 70 ∷ 70 ∷ 40 ∷ 0 ∷ 0 ∷ 0 ∷ 87 ∷ 65 ∷ 86 ∷ 69 ∷ 102 ∷ 109 ∷ 116 ∷ 32 ∷ 16 ∷ 0 ∷ 0 ∷ 0 ∷ 1 ∷ 0 ∷ 1
    ∷ 0 ∷ 64 ∷ 31 ∷ 0 ∷ 0 ∷ 192 ∷ 93 ∷ 0 ∷ 0 ∷ 3 ∷ 0 ∷ 24 ∷ 0 ∷ 100 ∷ 97 ∷ 116 ∷ 97 ∷ 3 ∷ 0 ∷ 0 ∷ 0 ∷ 0 ∷ 0
    ∷ 64 ∷ 0 ∷ 9 ∷ 9 ∷ []
unfolding low_bytes header_of all_fit bytes_of fits_whole nearest_whole file_of
whole-file = refl
