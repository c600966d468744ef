-- W3g. A whole stretch of a delay reader that reports absent taps: the stretch's own answer, with the sums over the
-- items done. It is defined over what the kernel reads, as the stretch itself is. Definitions only.
use Rattle.std.specs.Prelude.{ℕ, Bool, List, length, Float}
use Rattle.absent_taps.specs.declared.Absent.{Absent}
use Rattle.variable_delay.specs.Reader.{Reading}
use Rattle.variable_delay.specs.declared.VariableDelay.{VariableDelay}
use Rattle.stretch.specs.Stretch.{Ran}
use Rattle.stretch.specs.Whole.{whole_of, done_of, out_after}
use Rattle.stretch.specs.Counts.{whole_absent}
use Rattle.stretch_call.specs.Items.{delay_reader}
use Rattle.stretch_absent.specs.Sums.{absence}
use Rattle.told_stretches.specs.declared.ToldStretch.{ToldStretch}

-- All that such a stretch answers and leaves.
pub record Left : Type 0 where
  pub answer : ToldStretch
  pub ring : List Float
  pub out : List Float

abbrev pub leaves : ToldStretch → List Float → List Float → Left
leaves answer ring out = record { answer = answer; ring = ring; out = out }

abbrev pub told_by : List Float → Ran VariableDelay → Absent → Left
told_by out r absent =
    leaves (record { state = r.state; done = done_of r; refusal = r.number; absent = absent }) r.ring
    (out_after out r)

-- The kernel reads n taps.
abbrev pub told_of : Reading → Bool → Bool → ℕ → VariableDelay → List Float → List Float → List Float → List Float
    → Left
told_of read own lent n d ring inputs delays out =
    told_by out (whole_of (delay_reader read own lent) d ring inputs delays (length out))
    (whole_absent (delay_reader read own lent) (absence n) d ring inputs delays (length out))
