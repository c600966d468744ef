-- W11f. A call of the direct oversampled reader that reports absent taps: the reader's own answer, with the sums over
-- the inner readings of its phases, and none if it is refused. Definitions only.
use Rattle.std.specs.Prelude.{ℕ, zero, suc, List, Float}
use Rattle.answer.specs.declared.Answer.{Answer}
use Rattle.absent_taps.specs.declared.Absent.{Absent}
use Rattle.absent_taps.specs.Absent.{none, plus}
use Rattle.told_call.specs.Told.{unless_refused}
use Rattle.kernels.specs.declared.Kernel.{Kernel}
use Rattle.kernels.specs.Kernels.{read_by, taps_of}
use Rattle.fir_filter.specs.Filters.{pushed}
use Rattle.oversampled_delay.specs.Phases.{Turn, High, inner_of, turn_of, high_of, raised_of, delay_of, phases_of}
use Rattle.oversampled_delay.specs.Reader.{Lent, lengths_of, due_of, from_of, Left, called}
use Rattle.oversampled_delay.specs.declared.OversampledVariableDelay.{OversampledVariableDelay}
use Rattle.told_oversampled.specs.Inside.{inside}

-- The sums over the first phases of a call: the inner reading of phase k finds what the phases before it left.
unfoldable pub phases_absent : ℕ → Turn → High → ℕ → Absent
phases_absent n t h zero = none
phases_absent n t h (suc k) =
    let g = phases_of t h k in
    plus (phases_absent n t h k) (inside n (inner_of t.state g.inner) g.ring (raised_of t k) (delay_of t k))

-- Those of an accepted call.
abbrev pub absent_in : Kernel → OversampledVariableDelay → Lent → Float → Float → Absent
absent_in k d l x y =
    phases_absent (taps_of k)
    (turn_of (read_by k l.table) d l.coefficients (pushed l.up d.accepted x) (from_of d y) y)
    (high_of d.inner l.down l.ring) d.factor

-- What the reader's own call leaves, and the sums.
pub record ToldLeft : Type 0 where
  pub left : Left
  pub absent : Absent

abbrev pub leaves_told : Left → Absent → ToldLeft
leaves_told left absent = record { left = left; absent = absent }

abbrev pub leaves_once : OversampledVariableDelay → Answer → List Float → List Float → List Float → Left
leaves_once state answer up down ring =
    record { state = state; answer = answer; up = up; down = down; ring = ring }

abbrev pub told_of : Kernel → OversampledVariableDelay → Lent → Float → Float → ToldLeft
told_of k d l x y =
    leaves_told (called k d l x y) (unless_refused (due_of k d (lengths_of l) x y) (absent_in k d l x y))
