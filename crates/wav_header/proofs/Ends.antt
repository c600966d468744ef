-- W2. Every range of a header at its ends and one step beyond, which of two refusals is given, and three headers byte
-- by byte, the first as another program wrote it. By computing. Assumes nothing.
use mathlib.Core.Path.{◌≡◌, refl}
use mathlib.Core.Bool.{true, false}
use mathlib.Core.List.{[], ◌∷◌}
use Prim.Native.Nat.{◌-◌, ◌^◌}
use Rattle.word_bytes.specs.Bytes.{low_bytes}
use Rattle.sample_kind.specs.declared.SampleKind.TheVariants.{Pcm16, Pcm24, Float32}
use Rattle.wav_header.specs.Header.{file_length, header_of}
use Rattle.wav_header.specs.Refusals.{fits_riff, unlisted_verdict, header_verdict}

-- ---- a RIFF's size has 32 bits
pub last-16 : fits_riff Pcm16 2_147_483_629 ≡ true
last-16 = refl

pub past-16 : fits_riff Pcm16 2_147_483_630 ≡ false
past-16 = refl

pub last-16-size : file_length Pcm16 2_147_483_629 - 8 ≡ 2 ^ 32 - 2
last-16-size = refl

pub last-24 : fits_riff Pcm24 1_431_655_752 ≡ true
last-24 = refl

pub past-24 : fits_riff Pcm24 1_431_655_753 ≡ false
past-24 = refl

pub last-float : fits_riff Float32 1_073_741_811 ≡ true
last-float = refl

pub past-float : fits_riff Float32 1_073_741_812 ≡ false
past-float = refl

-- The largest count of a word is refused, although its number of bytes overflows a word.
pub every-count : header_verdict Float32 1 48000 (2 ^ 64 - 1) 58 ≡ 1
every-count = refl

-- ---- rates, channels, broken frames
pub lowest-rate : header_verdict Pcm16 1 8000 0 44 ≡ 0
lowest-rate = refl

pub below-rates : header_verdict Pcm16 1 7999 0 44 ≡ 1
below-rates = refl

pub highest-rate : header_verdict Pcm24 2 768000 2 44 ≡ 0
highest-rate = refl

pub above-rates : header_verdict Pcm24 2 768001 2 44 ≡ 1
above-rates = refl

pub broken-frame : header_verdict Float32 2 48000 3 58 ≡ 1
broken-frame = refl

pub no-channel : header_verdict Float32 0 48000 3 58 ≡ 13
no-channel = refl

-- Whole frames are tested only for one or two channels.
pub three-channels : header_verdict Float32 3 48000 4 58 ≡ 13
three-channels = refl

pub rate-before-channels : header_verdict Float32 3 768001 3 58 ≡ 1
rate-before-channels = refl

-- A kind that is none of the three is refused by 13, or by 1 before it.
pub unlisted : unlisted_verdict 3 48000 1 ≡ 13
unlisted = refl

pub frames-before-kind : unlisted_verdict 2 48000 1 ≡ 1
frames-before-kind = refl

pub rate-before-kind : unlisted_verdict 3 768001 1 ≡ 1
rate-before-kind = refl

pub count-before-block : header_verdict Pcm16 2 48000 1 0 ≡ 1
count-before-block = refl

pub block-before-channels : header_verdict Pcm16 3 48000 1 45 ≡ 2
block-before-channels = refl

-- ---- three headers: three frames of two channels at 44100 Hz, three samples at 96000 Hz, three frames at 768000 Hz
pub pcm-16 : header_of Pcm16 2 44100 6 ≡
    82 ∷ 73 ∷ 70 ∷ 70 ∷ 48 ∷ 0 ∷ 0 ∷ 0 ∷ 87 ∷ 65 ∷ 86 ∷ 69 ∷ 102 ∷ 109 ∷ 116 ∷ 32 ∷ 16 ∷ 0 ∷ 0 ∷ 0 ∷ 1 ∷ 0 ∷ 2
    ∷ 0 ∷ 68 ∷ 172 ∷ 0 ∷ 0 ∷ 16 ∷ 177 ∷ 2 ∷ 0 ∷ 4 ∷ 0 ∷ 16 ∷ 0 ∷ 100 ∷ 97 ∷ 116 ∷ 97 ∷ 12 ∷ 0 ∷ 0 ∷ 0 ∷ []
unfolding low_bytes header_of
pcm-16 = refl

pub pcm-24 : header_of Pcm24 1 96000 3 ≡
    82 ∷ 73 ∷ 70 ∷ 70 ∷ 46 ∷ 0 ∷ 0 ∷ 0 ∷ 87 ∷ 65 ∷ 86 ∷ 69 ∷ 102 ∷ 109 ∷ 116 ∷ 32 ∷ 16 ∷ 0 ∷ 0 ∷ 0 ∷ 1 ∷ 0 ∷ 1
    ∷ 0 ∷ 0 ∷ 119 ∷ 1 ∷ 0 ∷ 0 ∷ 101 ∷ 4 ∷ 0 ∷ 3 ∷ 0 ∷ 24 ∷ 0 ∷ 100 ∷ 97 ∷ 116 ∷ 97 ∷ 9 ∷ 0 ∷ 0 ∷ 0 ∷ []
unfolding low_bytes header_of
pcm-24 = refl

pub float-32 : header_of Float32 2 768000 6 ≡
    82 ∷ 73 ∷ 70 ∷ 70 ∷ 74 ∷ 0 ∷ 0 ∷ 0 ∷ 87 ∷ 65 ∷ 86 ∷ 69 ∷ 102 ∷ 109 ∷ 116 ∷ 32 ∷ 18 ∷ 0 ∷ 0 ∷ 0 ∷ 3 ∷ 0 ∷ 2
    ∷ 0 ∷ 0 ∷ 184 ∷ 11 ∷ 0 ∷ 0 ∷ 192 ∷ 93 ∷ 0 ∷ 8 ∷ 0 ∷ 32 ∷ 0 ∷ 0 ∷ 0 ∷ 102 ∷ 97 ∷ 99 ∷ 116 ∷ 4 ∷ 0 ∷ 0 ∷ 0
    ∷ 3 ∷ 0 ∷ 0 ∷ 0 ∷ 100 ∷ 97 ∷ 116 ∷ 97 ∷ 24 ∷ 0 ∷ 0 ∷ 0 ∷ []
unfolding low_bytes header_of
float-32 = refl
