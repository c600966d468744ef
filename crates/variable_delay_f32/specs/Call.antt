-- A call of a reader over f32 samples, over what its kernel reads. The refusals, the ring and the state are those of
-- variable_delay, whose values are floats of either width. Definitions only.
use Rattle.std.specs.Prelude.{ℕ, ◌+◌, List, Float}
use Rattle.answer.specs.Answers.{answer_f32_of}
use Rattle.variable_delay.specs.Reader.{Reading, stored, position_of, state_after}
use Rattle.variable_delay.specs.declared.VariableDelay.{VariableDelay}
use Rattle.variable_delay_f32.specs.declared.ProcessedF32.{ProcessedF32}

-- A call is refused and leaves the state as it was, or it stores the sample and then reads.
abbrev pub processed_f32_by : Reading → ℕ → VariableDelay → List Float → Float → Float → ProcessedF32
processed_f32_by read v d xs x y = record {
  state = state_after v d;
  answer = answer_f32_of v (read (stored d.accepted xs x) (d.accepted + 1) (position_of d.accepted y));
}
