-- C4, O3. What a call of an export leaves, a record for each kind: the refusal number, which it returns, 0 for none;
-- the sample, as a float or as a bit pattern; the changed fields of the state; the ring. A record holds all that its
-- export may write, so that one equation gives it (C1). Definitions only.
use Rattle.std.specs.Prelude.{ℕ, List, length, Float}
use Rattle.std.specs.Float.{Format}
use Rattle.std.specs.Float.Ieee.{to_bits}
use Rattle.answer.specs.declared.Answer.{Answer}
use Rattle.answer.specs.declared.AnswerF32.{AnswerF32}
use Rattle.answer.specs.Answers.{number_of, value_of, number_f32_of, value_f32_of}
use Rattle.variable_delay.specs.declared.VariableDelay.{VariableDelay}
use Rattle.variable_delay.specs.declared.Processed.{Processed}
use Rattle.variable_delay.specs.declared.Opened.{Opened}
use Rattle.variable_delay.specs.Opening as opening
use Rattle.answer_parts.specs.States.{count_of}

-- What the reading of a kernel leaves.
pub record Told (S : Type 0) : Type 0 where
  pub number : ℕ
  pub sample : S

abbrev pub tells : {S : Type 0} → ℕ → S → Told S
tells number sample = record { number = number; sample = sample }

abbrev pub told_by : Answer → Told Float
told_by a = tells (number_of a) (value_of a)

abbrev pub told_f32_by : AnswerF32 → Told Float
told_f32_by a = tells (number_f32_of a) (value_f32_of a)

-- What a call of a reader leaves.
pub record Left (S W : Type 0) : Type 0 where
  pub number : ℕ
  pub sample : S
  pub state : W
  pub ring : List Float

abbrev pub leaves : {S W : Type 0} → ℕ → S → W → List Float → Left S W
leaves number sample state ring = record { number = number; sample = sample; state = state; ring = ring }

abbrev pub left_by : Processed → List Float → Left Float ℕ
left_by p ring = leaves (number_of p.answer) (value_of p.answer) p.state.accepted ring

-- The same with the sample as its bit pattern.
abbrev pub told_in_bits : Format → Told Float → Told ℕ
told_in_bits f t = tells t.number (to_bits f t.sample)

abbrev pub in_bits : {W : Type 0} → Format → Left Float W → Left ℕ W
in_bits f l = leaves l.number (to_bits f l.sample) l.state l.ring

-- What an opening or a reset leaves.
pub record Renewed (W : Type 0) : Type 0 where
  pub number : ℕ
  pub state : W
  pub ring : List Float

abbrev pub renews : {W : Type 0} → ℕ → W → List Float → Renewed W
renews number state ring = record { number = number; state = state; ring = ring }

abbrev pub renewed_by : ℕ → Opened → List Float → Renewed ℕ
renewed_by before o ring = renews (opening.number_of o) (count_of before o) ring

abbrev pub opened_left : ℕ → ℕ → ℕ → List Float → Renewed ℕ
opened_left before maximum margin xs =
    renewed_by before (opening.opened_of maximum margin (length xs)) (opening.ring_opened maximum margin xs)

abbrev pub reset_left : VariableDelay → List Float → Renewed ℕ
reset_left d xs = renewed_by d.accepted (opening.reset_of d (length xs)) (opening.ring_reset d xs)
