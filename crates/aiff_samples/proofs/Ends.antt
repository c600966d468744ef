-- W12d. The largest, the least and the last number below zero of both widths, the high byte first. Assumes nothing.
use mathlib.Core.Path.{◌≡◌, refl}
use mathlib.Core.List.{[], ◌∷◌}
use lib.IntN.{pos, negsuc}
use Rattle.sample_kind.specs.declared.SampleKind.TheVariants.{Pcm16, Pcm24}
use Rattle.word_bytes.specs.Bytes.{bytes_value}
use Rattle.aiff_samples.specs.Samples.{whole_number}

pub of-16-bits : whole_number Pcm16 (127 ∷ 255 ∷ []) 0 ∷ whole_number Pcm16 (128 ∷ 0 ∷ []) 0
    ∷ whole_number Pcm16 (255 ∷ 255 ∷ []) 0 ∷ [] ≡ pos 8388352 ∷ negsuc 8388607 ∷ negsuc 255 ∷ []
unfolding bytes_value
of-16-bits = refl

pub of-24-bits : whole_number Pcm24 (127 ∷ 255 ∷ 255 ∷ []) 0 ∷ whole_number Pcm24 (128 ∷ 0 ∷ 0 ∷ []) 0
    ∷ whole_number Pcm24 (255 ∷ 255 ∷ 255 ∷ []) 0 ∷ [] ≡ pos 8388607 ∷ negsuc 8388607 ∷ negsuc 0 ∷ []
unfolding bytes_value
of-24-bits = refl
