-- The definitions in the exports' contracts: what a whole stretch leaves, with all that an export returns and writes in
-- one record (W3). Definitions only.
use Rattle.std.specs.Prelude.{ℕ, ◌&&◌, List, eqb, length, Float}
use Rattle.absent_taps.specs.declared.Absent.{Absent}
use Rattle.variable_delay.specs.declared.VariableDelay.{VariableDelay}
use Rattle.sinc_settings.specs.Ranges.{taps_ok, phases_ok}
use Rattle.sinc_settings.specs.Refusals.{table_length}
use Rattle.sinc_read.specs.Reading.{sinc_at}
use Rattle.stretch.specs.Stretch.{Ran}
use Rattle.stretch.specs.Whole.{Reader, whole_of, done_of, out_after}
use Rattle.stretch.specs.Counts.{whole_absent}
use Rattle.stretch_call.specs.Items.{delay_reader}
use Rattle.stretch_absent.specs.Sums.{absence}

-- The number of the refusal, 0 for none; the number of items done; the count; the ring; the output.
pub record Left : Type 0 where
  pub number : ℕ
  pub done : ℕ
  pub count : ℕ
  pub ring : List Float
  pub out : List Float

abbrev pub leaves : ℕ → ℕ → ℕ → List Float → List Float → Left
leaves number done count ring out =
    record { number = number; done = done; count = count; ring = ring; out = out }

abbrev pub left_by : List Float → Ran VariableDelay → Left
left_by out r = leaves r.number (done_of r) r.state.accepted r.ring (out_after out r)

abbrev pub left_of : Reader VariableDelay → VariableDelay → List Float → List Float → List Float → List Float → Left
left_of reader d ring inputs delays out = left_by out (whole_of reader d ring inputs delays (length out))

-- The same with the absent taps by kind, summed over the items done (W3g).
pub record Told : Type 0 where
  pub left : Left
  pub absent : Absent

abbrev pub tells : Left → Absent → Told
tells left absent = record { left = left; absent = absent }

abbrev pub told_of : Reader VariableDelay → ℕ → VariableDelay → List Float → List Float → List Float → List Float → Told
told_of reader taps d ring inputs delays out =
    tells (left_of reader d ring inputs delays out)
    (whole_absent reader (absence taps) d ring inputs delays (length out))

-- The reader over a lent table, whose taps and phases are settings and which must have its length.
abbrev pub table_reader : List Float → ℕ → ℕ → Reader VariableDelay
table_reader table taps phases =
    delay_reader (sinc_at table taps phases) (taps_ok taps && phases_ok phases)
    (eqb (length table) (table_length taps phases))
