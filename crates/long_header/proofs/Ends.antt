-- W10e, W10f. The refusals and lengths of a header at the ends of their ranges, and one header past RIFF byte by byte.
-- By computing. Assumes nothing.
use mathlib.Core.Path.{◌≡◌, refl}
use mathlib.Core.List.{[], ◌∷◌}
use Prim.Native.Nat.{◌-◌, ◌+◌, ◌^◌}
use Rattle.word_bytes.specs.Bytes.{low_bytes}
use Rattle.sample_kind.specs.declared.SampleKind.TheVariants.{Pcm16, Pcm24, Float32}
use Rattle.long_header.specs.declared.Form.TheVariants.{Bw64}
use Rattle.long_header.specs.LongHeader.{header_length_for, file_length_for, opening_of, long_header_of, header_for}
use Rattle.long_header.specs.Refusals.{file_verdict_for, header_verdict_for, length_for64}

-- ---- the last count of 16 bits, one channel, that fits RIFF, and the next
pub last-riff : (header_length_for Pcm16 2_147_483_629 ≡ 44) × (file_length_for Pcm16 2_147_483_629 ≡ 2 ^ 32 + 6)
last-riff = (refl, refl)

pub first-long : (header_length_for Pcm16 2_147_483_630 ≡ 80) × (file_length_for Pcm16 2_147_483_630 ≡ 2 ^ 32 + 44)
first-long = (refl, refl)

-- ---- 2^40 bytes, and one sample more; the largest count of a word
pub largest : (file_verdict_for Float32 2 48000 (2 ^ 38) ≡ 0) × (length_for64 Float32 2 (2 ^ 38) ≡ 2 ^ 40 + 94)
largest = (refl, refl)

pub above : (file_verdict_for Float32 1 48000 (2 ^ 38 + 1) ≡ 19) × (length_for64 Float32 1 (2 ^ 38 + 1) ≡ 0)
above = (refl, refl)

pub every-count : file_verdict_for Pcm24 1 48000 (2 ^ 64 - 1) ≡ 19
every-count = refl

-- ---- the pad byte counts
pub odd-length : length_for64 Pcm24 1 3 ≡ 54
odd-length = refl

pub empty-lengths : (length_for64 Pcm16 1 0 ≡ 44) × (length_for64 Float32 2 0 ≡ 58)
empty-lengths = (refl, refl)

-- ---- the order: 1, 19, 13, 14
pub one-first : header_verdict_for Pcm16 3 7999 (2 ^ 64 - 1) 0 ≡ 1
one-first = refl

pub nineteen-next : header_verdict_for Pcm16 3 8000 (2 ^ 64 - 1) 0 ≡ 19
nineteen-next = refl

pub thirteen-next : header_verdict_for Pcm16 3 8000 1 0 ≡ 13
thirteen-next = refl

pub fourteen-last : (header_verdict_for Pcm16 1 8000 1 43 ≡ 14) × (header_verdict_for Pcm16 1 8000 1 44 ≡ 0)
fourteen-last = (refl, refl)

pub fourteen-long : (header_verdict_for Pcm16 1 8000 (2 ^ 32) 79 ≡ 14)
    × (header_verdict_for Pcm16 1 8000 (2 ^ 32) 80 ≡ 0)
fourteen-long = (refl, refl)

-- ---- BW64 of float, two channels at 48000 Hz, 2^31 samples: 2^33 bytes behind 94
pub float-long : header_for Bw64 Float32 2 48000 (2 ^ 31) ≡
    66 ∷ 87 ∷ 54 ∷ 52 ∷ 255 ∷ 255 ∷ 255 ∷ 255 ∷ 87 ∷ 65 ∷ 86 ∷ 69 ∷ 100 ∷ 115 ∷ 54 ∷ 52 ∷ 28 ∷ 0 ∷ 0 ∷ 0 ∷ 86 ∷ 0 ∷ 0
    ∷ 0 ∷ 2 ∷ 0 ∷ 0 ∷ 0 ∷ 0 ∷ 0 ∷ 0 ∷ 0 ∷ 2 ∷ 0 ∷ 0 ∷ 0 ∷ 0 ∷ 0 ∷ 0 ∷ 64 ∷ 0 ∷ 0 ∷ 0 ∷ 0 ∷ 0 ∷ 0 ∷ 0 ∷ 0 ∷ 102 ∷ 109
    ∷ 116 ∷ 32 ∷ 18 ∷ 0 ∷ 0 ∷ 0 ∷ 3 ∷ 0 ∷ 2 ∷ 0 ∷ 128 ∷ 187 ∷ 0 ∷ 0 ∷ 0 ∷ 220 ∷ 5 ∷ 0 ∷ 8 ∷ 0 ∷ 32 ∷ 0 ∷ 0 ∷ 0 ∷ 102 ∷
    97
    ∷ 99 ∷ 116 ∷ 4 ∷ 0 ∷ 0 ∷ 0 ∷ 255 ∷ 255 ∷ 255 ∷ 255 ∷ 100 ∷ 97 ∷ 116 ∷ 97 ∷ 255 ∷ 255 ∷ 255 ∷ 255 ∷ []
unfolding low_bytes opening_of long_header_of
float-long = refl
