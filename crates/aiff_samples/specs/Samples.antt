-- W12d. What the bytes of an AIFF's sample mean: the meaning of a stored number in Wish 1, with the high byte first.
-- Only PCM has one. Definitions only.
use Rattle.std.specs.Prelude.{ℕ, ◌*◌, List, ℤ, length, Float}
use Rattle.std.specs.Float.{Format}
use Rattle.high_first.specs.High.{big_number}
use Rattle.sample_kind.specs.declared.SampleKind.{SampleKind}
use Rattle.sample_kind.specs.Kinds.{width_of, frame_of}
use Rattle.whole_samples.specs.Whole.{whole_of, units_of}
use Rattle.wav_samples.specs.Filling.{whole_verdict, frames_of, filled_by}

abbrev pub sample_of : Format → SampleKind → List ℕ → ℕ → Float
sample_of f kind b at = whole_of f (width_of kind * 8) (big_number (width_of kind) b at)

-- The same as a whole number in units of 2^-23.
abbrev pub whole_number : SampleKind → List ℕ → ℕ → ℤ
whole_number kind b at = units_of (width_of kind * 8) (big_number (width_of kind) b at)

-- What the lent slice holds afterwards. A refusal leaves it as it was.
abbrev pub filled : Format → SampleKind → ℕ → ℕ → List ℕ → ℕ → List Float → List Float
filled f kind channels channel b n old =
    filled_by (whole_verdict kind channels channel (length b) n)
    (frames_of (sample_of f kind b) (frame_of kind channels) (frame_of kind channel) n) old

abbrev pub filled_whole : SampleKind → ℕ → ℕ → List ℕ → ℕ → List ℤ → List ℤ
filled_whole kind channels channel b n old =
    filled_by (whole_verdict kind channels channel (length b) n)
    (frames_of (whole_number kind b) (frame_of kind channels) (frame_of kind channel) n) old
