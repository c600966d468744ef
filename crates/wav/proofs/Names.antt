-- W1. The identifiers are the letters `RIFF` and `WAVE`, and the standard tail is the bytes of
-- 0000-0010-8000-00AA00389B71 as they are stored, behind any 26. Assumes nothing.
use mathlib.Core.Path.{◌≡◌, refl}
use mathlib.Core.Bool.{true}
use mathlib.Core.List.{[], ◌∷◌, ◌++◌}
use lib.ListN.{replicate}
use Rattle.word_bytes.specs.Bytes.{bytes_value}
use Rattle.wav_format.specs.Tags.{standard_tail}
use Rattle.wav.specs.Wave.{riff_id, wave_id}

pub riff-letters : riff_id ≡ bytes_value (82 ∷ 73 ∷ 70 ∷ 70 ∷ [])
unfolding bytes_value
riff-letters = refl

pub wave-letters : wave_id ≡ bytes_value (87 ∷ 65 ∷ 86 ∷ 69 ∷ [])
unfolding bytes_value
wave-letters = refl

pub tail-bytes : standard_tail (replicate 26 255
    ++ (0 ∷ 0 ∷ 0 ∷ 0 ∷ 0x10 ∷ 0 ∷ 0x80 ∷ 0 ∷ 0 ∷ 0xaa ∷ 0 ∷ 0x38 ∷ 0x9b ∷ 0x71 ∷ [])) ≡ true
unfolding bytes_value
tail-bytes = refl
