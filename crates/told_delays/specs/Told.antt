-- W7c. A call of a delay reader that reports absent taps: the reader's own answer, with the absent taps among the n
-- that its kernel reads, and none if it is refused. It is defined over what the kernel reads, as the reader itself is.
-- Definitions only.
use Rattle.std.specs.Prelude.{ℕ, List, Float}
use Rattle.variable_delay.specs.Reader.{Reading, processed_by}
use Rattle.variable_delay.specs.declared.VariableDelay.{VariableDelay}
use Rattle.variable_delay.specs.declared.Processed.{Processed}
use Rattle.variable_delay_f32.specs.Call.{processed_f32_by}
use Rattle.variable_delay_f32.specs.declared.ProcessedF32.{ProcessedF32}
use Rattle.absent_taps.specs.declared.Absent.{Absent}
use Rattle.told_call.specs.Told.{unless_refused, absent_of_call}
use Rattle.told_delays.specs.declared.Told.{Told}
use Rattle.told_delays.specs.declared.ToldF32.{ToldF32}

abbrev pub with_absent : Processed → Absent → Told
with_absent p s = record { state = p.state; answer = p.answer; absent = s }

abbrev pub with_absent_f32 : ProcessedF32 → Absent → ToldF32
with_absent_f32 p s = record { state = p.state; answer = p.answer; absent = s }

-- The argument v is the call's verdict.
abbrev pub told_by : Reading → ℕ → ℕ → VariableDelay → List Float → Float → Float → Told
told_by read n v d xs x y =
    with_absent (processed_by read v d xs x y) (unless_refused v (absent_of_call d.accepted xs x y n))

abbrev pub told_f32_by : Reading → ℕ → ℕ → VariableDelay → List Float → Float → Float → ToldF32
told_f32_by read n v d xs x y =
    with_absent_f32 (processed_f32_by read v d xs x y) (unless_refused v (absent_of_call d.accepted xs x y n))
