-- W2c. The samples of a part of a file in the order in which they stand, whatever the channels. Definitions only.
use Rattle.std.specs.Prelude.{ℕ, ◌*◌, ◌<◌, List, T, Float}
use Rattle.std.specs.Float.{Format}
use Rattle.std.specs.Float.Ieee.Scale.{finite}
use Rattle.loop_laws.specs.Loops.{list_of}
use Rattle.sample_kind.specs.declared.SampleKind.{SampleKind}
use Rattle.sample_kind.specs.Kinds.{width_of}
use Rattle.wav_samples.specs.Samples.{sample_of}

abbrev pub samples_of : Format → SampleKind → List ℕ → ℕ → List Float
samples_of f kind b n = list_of (λ (k : ℕ). sample_of f kind b (k * width_of kind)) n

-- None of the samples is a NaN or an infinity.
abbrev pub AllFinite : Format → SampleKind → List ℕ → ℕ → Type 0
AllFinite f kind b n = (k : ℕ) → k < n → T (finite (sample_of f kind b (k * width_of kind)))
