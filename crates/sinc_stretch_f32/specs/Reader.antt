-- W3. VariableDelayF32 over a windowed sinc table as a reader of stretches: its tests 1 to 3, and its single call.
-- Definitions only.
use Rattle.std.specs.Prelude.{ℕ, Bool, ◌&&◌, List, eqb, leb, length, Float}
use Rattle.constants.specs.Numbers.{limit}
use Rattle.answer.specs.Answers.{number_f32_of, value_f32_of}
use Rattle.ring.specs.Length.{settings_ok, length_for}
use Rattle.sinc_settings.specs.Ranges.{taps_ok, phases_ok}
use Rattle.sinc_settings.specs.Refusals.{table_length}
use Rattle.sinc_read_f32.specs.Reading.{sinc_f32_at}
use Rattle.variable_delay.specs.Reader.{Reading, verdict, ring_after}
use Rattle.variable_delay.specs.declared.VariableDelay.{VariableDelay}
use Rattle.variable_delay_f32.specs.Call.{processed_f32_by}
use Rattle.stretch.specs.Stretch.{Call}
use Rattle.stretch.specs.Whole.{Reader, whole_of}
use Rattle.stretch_call.specs.Items.{Left, left_by}

-- W3a. An item is a single call of a delay reader over f32 samples.
unfoldable pub item_f32 : Reading → Bool → Bool → Call VariableDelay
item_f32 read own lent d ring x y =
    let v = verdict own lent d (length ring) x y in
    let p = processed_f32_by read v d ring x y in
    record {
      state = p.state;
      ring = ring_after v d ring x;
      number = number_f32_of p.answer;
      sample = value_f32_of p.answer;
    }

-- W3c. The reader over what its kernel reads. `own` says that the kernel's settings are in range, `lent` that the table
-- lent to it has its length.
abbrev pub reader_f32 : Reading → Bool → Bool → Reader VariableDelay
reader_f32 read own lent =
    record {
      settings = λ d. settings_ok d.maximum d.margin && own;
      lent = λ d len. eqb len (length_for d.maximum d.margin) && lent;
      fields = λ d. leb d.accepted limit;
      call = item_f32 read own lent;
    }

abbrev pub sinc_f32 : List Float → ℕ → ℕ → Reader VariableDelay
sinc_f32 table taps phases =
    reader_f32 (sinc_f32_at table taps phases) (taps_ok taps && phases_ok phases)
    (eqb (length table) (table_length taps phases))

-- All that a whole call answers and leaves, its ring and its output included.
abbrev pub left_f32 : List Float → ℕ → ℕ → VariableDelay → List Float → List Float → List Float → List Float → Left
left_f32 table taps phases d ring inputs delays out =
    left_by out (whole_of (sinc_f32 table taps phases) d ring inputs delays (length out))
