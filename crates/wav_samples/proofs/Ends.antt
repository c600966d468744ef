-- W1e. The largest, the least and the last number below zero of both widths, in units of 2^-23,
-- and the refusals of whole numbers in their order. Assumes nothing.
use mathlib.Core.Path.{◌≡◌, refl}
use mathlib.Core.List.{[], ◌∷◌}
use lib.IntN.{pos, negsuc}
use Rattle.sample_kind.specs.declared.SampleKind.TheVariants.{Pcm16, Pcm24, Float32}
use Rattle.word_bytes.specs.Bytes.{bytes_value}
use Rattle.wav_samples.specs.Samples.{whole_number}
use Rattle.wav_samples.specs.Filling.{whole_verdict}

pub of-16-bits : whole_number Pcm16 (255 ∷ 127 ∷ []) 0 ∷ whole_number Pcm16 (0 ∷ 128 ∷ []) 0
    ∷ whole_number Pcm16 (255 ∷ 255 ∷ []) 0 ∷ [] ≡ pos 8388352 ∷ negsuc 8388607 ∷ negsuc 255 ∷ []
unfolding bytes_value
of-16-bits = refl

pub of-24-bits : whole_number Pcm24 (255 ∷ 255 ∷ 127 ∷ []) 0 ∷ whole_number Pcm24 (0 ∷ 0 ∷ 128 ∷ []) 0
    ∷ whole_number Pcm24 (255 ∷ 255 ∷ 255 ∷ []) 0 ∷ [] ≡ pos 8388607 ∷ negsuc 8388607 ∷ negsuc 0 ∷ []
unfolding bytes_value
of-24-bits = refl

-- The cases are a float kind, two whole frames, a part that is not two frames, and the same part with a channel that
-- does not exist.
pub whole-order : whole_verdict Float32 1 0 8 2 ∷ whole_verdict Pcm16 1 0 4 2 ∷ whole_verdict Pcm24 2 1 11 2
    ∷ whole_verdict Pcm24 2 2 11 2 ∷ [] ≡ 1 ∷ 0 ∷ 2 ∷ 1 ∷ []
whole-order = refl
