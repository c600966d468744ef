-- W7c, W7g. A call of the quality reader that reports absent taps: the reader's own answer, with the absent taps of
-- every reading that its turn makes from the sets for its rate, and none if it is refused. Definitions only.
use Rattle.std.specs.Prelude.{ℕ, ◌+◌, List, length, Float}
use Rattle.variable_delay.specs.Reader.{stored, position_of}
use Rattle.absent_taps.specs.declared.Absent.{Absent}
use Rattle.told_call.specs.Told.{unless_refused}
use Rattle.absent_qualities.specs.Readings.{of_turn}
use Rattle.bank_choice.specs.Choosing.{chosen_of}
use Rattle.quality_mode.specs.declared.QualityMode.{QualityMode}
use Rattle.returning_fade.specs.Step.{step_of}
use Rattle.quality_variable_delay.specs.State.{fade_part}
use Rattle.quality_variable_delay.specs.Bank.{due_of, processed}
use Rattle.quality_variable_delay.specs.declared.QualityVariableDelayF32.{QualityVariableDelayF32}
use Rattle.quality_variable_delay.specs.declared.ProcessedQ.{ProcessedQ}
use Rattle.told_quality.specs.declared.ToldQ.{ToldQ}

abbrev pub with_absent : ProcessedQ → Absent → ToldQ
with_absent p s = record { state = p.state; answer = p.answer; absent = s }

-- The absent taps of an accepted call that requests q, from the ring with its sample stored and at its position.
abbrev pub absent_of_call : Float → QualityVariableDelayF32 → List Float → Float → Float → QualityMode → Float → Absent
absent_of_call max-rate d xs x y q rate =
    of_turn (chosen_of max-rate rate) (step_of (fade_part d) q).turn (stored d.accepted xs x) (d.accepted + 1)
    (position_of d.accepted y)

abbrev pub told_of : List Float → Float → QualityVariableDelayF32 → List Float → Float → Float → QualityMode → Float
    → ToldQ
told_of sets max-rate d xs x y q rate =
    with_absent (processed sets max-rate d xs x y q rate)
    (unless_refused (due_of (length sets) max-rate d (length xs) x y rate) (absent_of_call max-rate d xs x y q rate))
