-- W11d. What an oversampled reader takes from a call of its inner reader: the accepted number and the sample, which is
-- 0.0 for a refused one. Definitions only.
use Rattle.std.specs.Prelude.{true, List, length, Float}
use Rattle.answer.specs.Answers.{value_of}
use Rattle.variable_delay.specs.Reader.{verdict, ring_after}
use Rattle.variable_delay.specs.declared.VariableDelay.{VariableDelay}
use Rattle.variable_delay.specs.declared.Processed.{Processed}
use Rattle.inner_reader.specs.declared.Stepped.{Stepped}

abbrev pub stepped_of : Processed → Stepped
stepped_of p = record { accepted = p.state.accepted; sample = value_of p.answer }

-- The inner ring after the call.
abbrev pub ring_stepped : VariableDelay → List Float → Float → Float → List Float
ring_stepped d xs x y = ring_after (verdict true true d (length xs) x y) d xs x
