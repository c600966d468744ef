-- W3g. A whole stretch of the quality reader that reports absent taps: the stretch's own answer, with the sums over the
-- items done. Definitions only.
use Rattle.std.specs.Prelude.{List, length, Float}
use Rattle.absent_taps.specs.declared.Absent.{Absent}
use Rattle.quality_mode.specs.declared.QualityMode.{QualityMode}
use Rattle.quality_variable_delay.specs.declared.QualityVariableDelayF32.{QualityVariableDelayF32}
use Rattle.told_quality.specs.Told.{absent_of_call}
use Rattle.stretch.specs.Stretch.{Ran}
use Rattle.stretch.specs.Whole.{whole_of, done_of, out_after}
use Rattle.stretch.specs.Counts.{Absence, whole_absent}
use Rattle.quality_stretch.specs.Reader.{quality}
use Rattle.told_quality_stretch.specs.declared.ToldStretchedQ.{ToldStretchedQ}

-- The absent taps of an accepted item, as those of a single call of the stretch's quality and at its rate (W7g).
abbrev pub absence : Float → QualityMode → Float → Absence QualityVariableDelayF32
absence max-rate q rate d ring x y = absent_of_call max-rate d ring x y q rate

abbrev pub stretch_absent : List Float → Float → QualityMode → Float → QualityVariableDelayF32 → List Float → List Float
    → List Float → List Float → Absent
stretch_absent sets max-rate q rate d ring inputs delays out =
    whole_absent (quality sets max-rate q rate) (absence max-rate q rate) d ring inputs delays (length out)

-- All that such a stretch answers and leaves.
pub record Left : Type 0 where
  pub answer : ToldStretchedQ
  pub ring : List Float
  pub out : List Float

abbrev pub leaves : ToldStretchedQ → List Float → List Float → Left
leaves answer ring out = record { answer = answer; ring = ring; out = out }

abbrev pub told_by : List Float → Ran QualityVariableDelayF32 → Absent → Left
told_by out r absent =
    leaves (record { state = r.state; done = done_of r; refusal = r.number; absent = absent }) r.ring
    (out_after out r)

abbrev pub told_of : List Float → Float → QualityMode → Float → QualityVariableDelayF32 → List Float → List Float
    → List Float → List Float → Left
told_of sets max-rate q rate d ring inputs delays out =
    told_by out (whole_of (quality sets max-rate q rate) d ring inputs delays (length out))
    (stretch_absent sets max-rate q rate d ring inputs delays out)
