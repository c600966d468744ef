-- W11, C1, C4. The same for the cascaded reader. Definitions only.
use Rattle.std.specs.Prelude.{ℕ, ◌&&◌, List, eqb, length, Float}
use Rattle.answer.specs.Answers.{number_of, value_of}
use Rattle.variable_delay.specs.Opening.{cleared_by}
use Rattle.cascaded_delay.specs.declared.CascadedOversampledVariableDelay4x.{CascadedOversampledVariableDelay4x}
use Rattle.cascaded_delay.specs.Reader as cascaded
use Rattle.cascaded_delay.specs.Opening.{fresh, renew_due, opened_by, halfband_of, last_of, written_by}
use Rattle.oversampled_codes.specs.declared.Numbers.{Numbers}
use Rattle.oversampled_codes.specs.Codes.{numbers}
use Rattle.oversampled_codes.specs.Openings.{cascaded_number, cascaded_numbers}
use Rattle.oversampled_codes.specs.Left.{Left, leaves, Renewed, renews}

abbrev pub cascaded_state : ℕ → ℕ → Numbers → CascadedOversampledVariableDelay4x
cascaded_state maximum margin n = record {
  maximum = maximum;
  margin = margin;
  accepted = n.accepted;
  inner = n.inner;
  previous = n.previous;
}

-- The histories and the inner ring; an opening writes the coefficients too.
pub record Held : Type 0 where
  pub up1 : List Float
  pub up2 : List Float
  pub down2 : List Float
  pub down1 : List Float
  pub ring : List Float

abbrev pub held_twice : List Float → List Float → List Float → List Float → List Float → Held
held_twice up1 up2 down2 down1 ring = record { up1 = up1; up2 = up2; down2 = down2; down1 = down1; ring = ring }

pub record Designed : Type 0 where
  pub halfband : List Float
  pub last : List Float
  pub rest : Held

abbrev pub designs_twice : List Float → List Float → Held → Designed
designs_twice halfband last rest = record { halfband = halfband; last = last; rest = rest }

abbrev pub cascaded_left : cascaded.Left → Left Held
cascaded_left l =
    leaves (number_of l.answer) (value_of l.answer)
    (numbers l.state.accepted l.state.inner l.state.previous)
    (held_twice l.up1 l.up2 l.down2 l.down1 l.ring)

abbrev pub cascaded_opened : Numbers → ℕ → ℕ → List Float → List Float → List Float → List Float → List Float
    → List Float → List Float → Renewed Designed
cascaded_opened before maximum margin halfband last up1 up2 down2 down1 ring =
    let d = fresh maximum margin in
    let n = renew_due d (eqb (length halfband) 65 && eqb (length last) 129 && cascaded.held_ok (cascaded.needed_by d)
    (length up1) (length up2) (length down2) (length down1) (length ring)) in
    let o = opened_by n d in
    renews (cascaded_number o) (cascaded_numbers before o)
    (designs_twice (written_by n halfband_of halfband) (written_by n last_of last) (held_twice (cleared_by n up1)
    (cleared_by n up2) (cleared_by n down2) (cleared_by n down1) (cleared_by n ring)))

abbrev pub cascaded_reset : CascadedOversampledVariableDelay4x → List Float → List Float → List Float → List Float
    → List Float → Renewed Held
cascaded_reset d up1 up2 down2 down1 ring =
    let n = renew_due d (cascaded.held_ok (cascaded.needed_by d) (length up1) (length up2) (length down2) (length down1)
    (length ring)) in
    let o = opened_by n d in
    renews (cascaded_number o) (cascaded_numbers (numbers d.accepted d.inner d.previous) o)
    (held_twice (cleared_by n up1) (cleared_by n up2) (cleared_by n down2) (cleared_by n down1) (cleared_by n ring))
