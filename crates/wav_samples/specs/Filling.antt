-- W1. One channel's samples, frame by frame, whatever a sample is. Definitions only.
use Rattle.std.specs.Prelude.{ℕ, zero, suc, ◌+◌, ◌*◌, Bool, true, ◌&&◌, List, [], ◌∷◌, eqb, leb, ltb, ℤ, length, Float}
use Rattle.std.specs.Float.{Format}
use Rattle.loop_laws.specs.Loops.{list_of}
use Rattle.refusal_order.specs.Order.{◌unless◌, first_of}
use Rattle.sample_kind.specs.declared.SampleKind.{SampleKind}
use Rattle.sample_kind.specs.Kinds.{frame_of}
use Rattle.wav_samples.specs.Samples.{sample_of, is_pcm, whole_number}

-- The refusals. 1: the channels are not one or two, there is no channel of that number, or samples of this kind cannot
-- be made. 2: a part of `size` bytes is not exactly n frames.
abbrev pub refused_by : Bool → SampleKind → ℕ → ℕ → ℕ → ℕ → ℕ
refused_by asked kind channels channel size n =
    first_of
    (1 unless (asked && (leb channels 2 && ltb channel channels))
    ∷ 2 unless eqb size (n * frame_of kind channels)
    ∷ [])

-- Floats can be made from every kind, whole numbers only from PCM.
abbrev pub verdict : SampleKind → ℕ → ℕ → ℕ → ℕ → ℕ
verdict kind = refused_by true kind

abbrev pub whole_verdict : SampleKind → ℕ → ℕ → ℕ → ℕ → ℕ
whole_verdict kind = refused_by (is_pcm kind) kind

-- The samples of n frames of `frame` bytes, each sample `first` bytes behind the beginning of its frame. What stands at
-- a place is given as a function, so that this definition serves every layout.
abbrev pub frames_of : {A : Type 0} → (ℕ → A) → ℕ → ℕ → ℕ → List A
frames_of sample frame first n = list_of (λ (k : ℕ). sample (k * frame + first)) n

-- What the lent slice holds afterwards. A refusal leaves it as it was.
abbrev pub filled_by : {A : Type 0} → ℕ → List A → List A → List A
filled_by zero new old = new
filled_by (suc k) new old = old

abbrev pub filled : Format → SampleKind → ℕ → ℕ → List ℕ → ℕ → List Float → List Float
filled f kind channels channel b n old =
    filled_by (verdict kind channels channel (length b) n)
    (frames_of (sample_of f kind b) (frame_of kind channels) (frame_of kind channel) n) old

abbrev pub filled_whole : SampleKind → ℕ → ℕ → List ℕ → ℕ → List ℤ → List ℤ
filled_whole kind channels channel b n old =
    filled_by (whole_verdict kind channels channel (length b) n)
    (frames_of (whole_number kind b) (frame_of kind channels) (frame_of kind channel) n) old
