-- W1, N1, N2. What a `fmt ` may say, the codes of the kinds, and the samples of a channel, by computing. Assumes
-- nothing.
use mathlib.Core.Path.{◌≡◌, refl}
use mathlib.Core.List.{[], ◌∷◌, ◌++◌, map}
use Prim.Native.Nat.{ℕ, ◌*◌}
use lib.ListN.{take}
use Rattle.word_bytes.specs.Bytes.{low_bytes}
use Rattle.sample_kind.specs.declared.SampleKind.TheVariants.{Pcm16, Pcm24, Float32}
use Rattle.wav_samples.specs.Filling.{verdict}
use Rattle.sample_kind.specs.Kinds.{kind_of}
use Rattle.fugnadri_wav.specs.Exports.{channels_of}
use Rattle.range_ends.specs.Files.{format, formatted, of_kind, refused, coded}

-- 13: a `fmt ` has at least 16 bytes; 15 and 17 have a pad byte.
pub fmt-sizes : refused (formatted 14 (take 14 (format 1 1 2 16)) 4) ∷ refused (formatted 15 (format 1 1 2 16) 4)
    ∷ refused (formatted 16 (format 1 1 2 16) 4) ∷ refused (formatted 17 (format 1 1 2 16 ++ (0 ∷ 0 ∷ [])) 4)
    ∷ refused (formatted 18 (format 1 1 2 16 ++ (0 ∷ 0 ∷ [])) 4) ∷ []
    ≡ 13 ∷ 13 ∷ 0 ∷ 0 ∷ 0 ∷ []
unfolding refused low_bytes
fmt-sizes = refl

-- 13: there are one or two channels.
pub channels : map (λ (n : ℕ). refused (of_kind 1 n (n * 2) 16 (n * 2))) (0 ∷ 1 ∷ 2 ∷ 3 ∷ []) ≡ 13 ∷ 0 ∷ 0 ∷ 13 ∷ []
unfolding refused low_bytes
channels = refl

-- 13: PCM, tag 1, has 16 or 24 bits; IEEE float, tag 3, has 32. First by bytes, then by tags, where 65534 is
-- WAVE_FORMAT_EXTENSIBLE.
pub pcm : map (λ (n : ℕ). refused (of_kind 1 1 n (8 * n) (12 * n))) (1 ∷ 2 ∷ 3 ∷ 4 ∷ []) ≡ 13 ∷ 0 ∷ 0 ∷ 13 ∷ []
unfolding refused low_bytes
pcm = refl

pub floats : map (λ (n : ℕ). refused (of_kind 3 1 n (8 * n) (12 * n))) (2 ∷ 3 ∷ 4 ∷ 8 ∷ []) ≡ 13 ∷ 13 ∷ 0 ∷ 13 ∷ []
unfolding refused low_bytes
floats = refl

pub tags : map (λ (t : ℕ). refused (of_kind t 1 2 16 4)) (0 ∷ 1 ∷ 2 ∷ 3 ∷ 65534 ∷ []) ≡ 13 ∷ 0 ∷ 13 ∷ 13 ∷ 13 ∷ []
unfolding refused low_bytes
tags = refl

-- 13: the block is channels × bytes, and `data` has whole frames; it may have none.
pub blocks : map (λ (n : ℕ). refused (of_kind 1 2 n 16 0)) (0 ∷ 2 ∷ 3 ∷ 4 ∷ 5 ∷ []) ≡ 13 ∷ 13 ∷ 13 ∷ 0 ∷ 13 ∷ []
unfolding refused low_bytes
blocks = refl

pub frames : map (λ (n : ℕ). refused (of_kind 1 2 4 16 n)) (0 ∷ 2 ∷ 3 ∷ 4 ∷ 5 ∷ 8 ∷ []) ≡ 0 ∷ 13 ∷ 13 ∷ 0 ∷ 13 ∷ 0 ∷ []
unfolding refused low_bytes
frames = refl

-- At the C boundary 0 is PCM of 16 bits, 1 PCM of 24 and 2 IEEE float: as the code of a file, and as an argument for
-- its samples. A code above 2 is refused by 1.
pub codes-out : coded (of_kind 1 1 2 16 2) ∷ coded (of_kind 1 1 3 24 3) ∷ coded (of_kind 3 1 4 32 4) ∷ []
    ≡ 0 ∷ 1 ∷ 2 ∷ []
unfolding coded low_bytes
codes-out = refl

pub codes-in : map (λ (c : ℕ). verdict (kind_of c) (channels_of c 1) 0 (2 * 9) 9) (0 ∷ 1 ∷ 2 ∷ 3 ∷ 255 ∷ [])
    ≡ 0 ∷ 2 ∷ 2 ∷ 1 ∷ 1 ∷ []
codes-in = refl

pub codes-in-24 : map (λ (c : ℕ). verdict (kind_of c) (channels_of c 1) 0 (3 * 9) 9) (0 ∷ 1 ∷ 2 ∷ 3 ∷ 255 ∷ [])
    ≡ 2 ∷ 0 ∷ 2 ∷ 1 ∷ 1 ∷ []
codes-in-24 = refl

-- N1, N2, N9. The samples of a channel: one or two channels, and the number of one of them; then whole frames, as many
-- as are lent. 1 comes before 2.
pub sample-channels : verdict Pcm16 0 0 0 0 ∷ verdict Pcm16 1 0 6 3 ∷ verdict Pcm16 1 1 6 3
    ∷ verdict Pcm16 2 1 12 3 ∷ verdict Pcm16 2 2 12 3 ∷ verdict Pcm16 3 0 18 3 ∷ []
    ≡ 1 ∷ 0 ∷ 1 ∷ 0 ∷ 1 ∷ 1 ∷ []
sample-channels = refl

pub sample-lengths : map (λ (n : ℕ). verdict Pcm24 2 0 n 2) (11 ∷ 12 ∷ 13 ∷ 18 ∷ []) ≡ 2 ∷ 0 ∷ 2 ∷ 2 ∷ []
sample-lengths = refl

pub sample-order : verdict Float32 3 0 11 2 ∷ verdict Float32 2 0 11 2 ∷ verdict Float32 2 0 16 2 ∷ [] ≡ 1 ∷ 2 ∷ 0 ∷ []
sample-order = refl
