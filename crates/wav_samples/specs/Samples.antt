-- W1. What the bytes of a stored sample mean: as a value of a float format, and as a whole number. Definitions only.
use Rattle.std.specs.Prelude.{ℕ, ◌*◌, Bool, true, false, List, ℤ, Float}
use Rattle.std.specs.Float.{Format, binary32}
use Rattle.std.specs.Float.Ieee.{of_bits}
use Rattle.sample_kind.specs.declared.SampleKind.{SampleKind}
use Rattle.sample_kind.specs.declared.SampleKind.TheVariants.{Pcm16, Pcm24, Float32}
use Rattle.sample_kind.specs.Kinds.{width_of}
use Rattle.wav_format.specs.Format.{number}
use Rattle.whole_samples.specs.Whole.{whole_of, units_of}

-- W1k. The sample whose first byte stands at a place. Bytes that are missing count as 0, so a sample past the end is
-- +0.0. A stored f32 is a value of both formats.
abbrev pub sample_of : Format → SampleKind → List ℕ → ℕ → Float
sample_of f Pcm16 b at = whole_of f 16 (number 2 b at)
sample_of f Pcm24 b at = whole_of f 24 (number 3 b at)
sample_of f Float32 b at = of_bits binary32 (number 4 b at)

-- W1e. The same as a whole number in units of 2^-23: 24 bits as they are, 16 bits times 256. Only PCM has one.
abbrev pub is_pcm : SampleKind → Bool
is_pcm Pcm16 = true
is_pcm Pcm24 = true
is_pcm Float32 = false

abbrev pub whole_number : SampleKind → List ℕ → ℕ → ℤ
whole_number kind b at = units_of (width_of kind * 8) (number (width_of kind) b at)
