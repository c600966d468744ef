-- C1, C4. What an export of the oversampled readers leaves: the refusal number, which it returns, 0 for none; the
-- sample, 0.0 if refused; the three numbers of the state; and a record of every slice that it may write. One equation
-- gives all of it. Definitions only.
use Rattle.std.specs.Prelude.{ℕ, List, length, Float}
use Rattle.answer.specs.Answers.{number_of, value_of}
use Rattle.variable_delay.specs.Opening.{cleared_by}
use Rattle.oversampled_delay.specs.declared.OversampledVariableDelay.{OversampledVariableDelay}
use Rattle.oversampled_delay.specs.Reader as direct
use Rattle.oversampled_delay.specs.Opening as direct-opening
use Rattle.oversampled_codes.specs.declared.Numbers.{Numbers}
use Rattle.oversampled_codes.specs.Codes.{numbers}
use Rattle.oversampled_codes.specs.Openings.{direct_number, direct_numbers}

pub record Left (H : Type 0) : Type 0 where
  pub number : ℕ
  pub sample : Float
  pub state : Numbers
  pub slices : H

abbrev pub leaves : {H : Type 0} → ℕ → Float → Numbers → H → Left H
leaves number sample state slices = record { number = number; sample = sample; state = state; slices = slices }

abbrev pub direct_state : ℕ → ℕ → ℕ → ℕ → Numbers → OversampledVariableDelay
direct_state maximum margin factor taps n = record {
  maximum = maximum;
  margin = margin;
  factor = factor;
  taps = taps;
  accepted = n.accepted;
  inner = n.inner;
  previous = n.previous;
}

-- The histories and the inner ring; an opening writes the coefficients too.
pub record Held : Type 0 where
  pub up : List Float
  pub down : List Float
  pub ring : List Float

abbrev pub held_once : List Float → List Float → List Float → Held
held_once up down ring = record { up = up; down = down; ring = ring }

pub record Designed : Type 0 where
  pub coefficients : List Float
  pub rest : Held

abbrev pub designs : List Float → Held → Designed
designs coefficients rest = record { coefficients = coefficients; rest = rest }

abbrev pub direct_left : direct.Left → Left Held
direct_left l =
    leaves (number_of l.answer) (value_of l.answer)
    (numbers l.state.accepted l.state.inner l.state.previous) (held_once l.up l.down l.ring)

-- What an opening or a reset leaves.
pub record Renewed (H : Type 0) : Type 0 where
  pub number : ℕ
  pub state : Numbers
  pub slices : H

abbrev pub renews : {H : Type 0} → ℕ → Numbers → H → Renewed H
renews number state slices = record { number = number; state = state; slices = slices }

abbrev pub direct_opened : Numbers → ℕ → ℕ → ℕ → ℕ → List Float → List Float → List Float → List Float
    → Renewed Designed
direct_opened before maximum margin factor taps coefficients up down ring =
    let d = direct-opening.fresh maximum margin factor taps in
    let n = direct-opening.open_due d (length coefficients) (length up) (length down) (length ring) in
    let o = direct-opening.opened_by n d in
    renews (direct_number o) (direct_numbers before o)
    (designs (direct-opening.designed_by n d coefficients)
    (held_once (cleared_by n up) (cleared_by n down) (cleared_by n ring)))

abbrev pub direct_reset : OversampledVariableDelay → List Float → List Float → List Float → Renewed Held
direct_reset d up down ring =
    let n = direct-opening.reset_due d (length up) (length down) (length ring) in
    let o = direct-opening.opened_by n d in
    renews (direct_number o) (direct_numbers (numbers d.accepted d.inner d.previous) o)
    (held_once (cleared_by n up) (cleared_by n down) (cleared_by n ring))
