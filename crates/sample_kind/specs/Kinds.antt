-- W1. The kinds of stored samples: how many bytes each has, and its code at the C boundary. Definitions only.
use Rattle.std.specs.Prelude.{ℕ, ◌*◌, cond, eqb}
use Rattle.sample_kind.specs.declared.SampleKind.{SampleKind}
use Rattle.sample_kind.specs.declared.SampleKind.TheVariants.{Pcm16, Pcm24, Float32}

abbrev pub width_of : SampleKind → ℕ
width_of Pcm16 = 2
width_of Pcm24 = 3
width_of Float32 = 4

-- A frame is one sample of each channel.
abbrev pub frame_of : SampleKind → ℕ → ℕ
frame_of kind channels = channels * width_of kind

-- The codes are 0, 1 and 2.
abbrev pub code_of : SampleKind → ℕ
code_of Pcm16 = 0
code_of Pcm24 = 1
code_of Float32 = 2

abbrev pub kind_of : ℕ → SampleKind
kind_of n = cond (eqb n 0) Pcm16 (cond (eqb n 1) Pcm24 Float32)
