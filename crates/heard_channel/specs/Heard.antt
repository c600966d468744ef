-- A channel of a part, read back at its delays. Definitions only.
use Rattle.std.specs.Prelude.{ℕ, List, Float, length}
use Rattle.std.specs.Float.{binary32}
use Rattle.sample_kind.specs.declared.SampleKind.{SampleKind}
use Rattle.variable_delay.specs.declared.VariableDelay.{VariableDelay}
use Rattle.wav_samples.specs.Filling.{filled}
use Rattle.stretch.specs.Stretch.{Ran}
use Rattle.imitation.specs.Reading.{heard}

-- The channel's samples. Where W1 refuses to fill, the old contents stay.
unfoldable pub samples_in : SampleKind → ℕ → ℕ → List ℕ → List Float → List Float
samples_in kind channels channel part old = filled binary32 kind channels channel part (length old) old

-- The results of the single calls in order, up to the first that is refused.
unfoldable pub heard_in : List Float → VariableDelay → List Float → List Float → List Float → Ran VariableDelay
heard_in table reader ring samples delays = heard table reader ring samples delays
