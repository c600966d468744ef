-- One channel of a transfer, read by a WindowedSincF32 of 32 taps and 64 phases, each sample at its own delay. These
-- are single calls in order, up to the first that is refused. Definitions only.
use Rattle.std.specs.Prelude.{ℕ, true, List, ◌++◌, eqb, length, drop, Float}
use Rattle.answer.specs.Answers.{number_f32_of, value_f32_of}
use Rattle.sinc_settings.specs.Refusals.{table_length}
use Rattle.sinc_read_f32.specs.Reading.{sinc_f32_at}
use Rattle.variable_delay.specs.Reader.{verdict, ring_after}
use Rattle.variable_delay.specs.declared.VariableDelay.{VariableDelay}
use Rattle.variable_delay_f32.specs.Call.{processed_f32_by}
use Rattle.stretch.specs.Stretch.{Called, Call, Ran, stretch_of}
use Rattle.imitation.specs.declared.reading.Ended.{Ended}

-- The number of the refusal, 0 for none. The 32 taps and 64 phases are in range.
abbrev pub due_of : List Float → VariableDelay → List Float → Float → Float → ℕ
due_of table d ring x y = verdict true (eqb (length table) (table_length 32 64)) d (length ring) x y

abbrev pub called_by : List Float → ℕ → VariableDelay → List Float → Float → Float → Called VariableDelay
called_by table v d ring x y =
    let p = processed_f32_by (sinc_f32_at table 32 64) v d ring x y in
    record {
      state = p.state;
      ring = ring_after v d ring x;
      number = number_f32_of p.answer;
      sample = value_f32_of p.answer;
    }

-- A single call of the reader.
unfoldable pub call_of : List Float → Call VariableDelay
call_of table d ring x y = called_by table (due_of table d ring x y) d ring x y

abbrev pub heard : List Float → VariableDelay → List Float → List Float → List Float → Ran VariableDelay
heard table = stretch_of (call_of table)

abbrev pub ended_of : Ran VariableDelay → Ended
ended_of r = record { reader = r.state; done = length r.samples; refusal = r.number }

-- The samples' slice after the stretch: those that were read, then the others as they were.
abbrev pub left_in : List Float → Ran VariableDelay → List Float
left_in xs r = r.samples ++ drop (length r.samples) xs
