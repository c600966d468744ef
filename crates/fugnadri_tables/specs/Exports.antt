-- Definitions for the exports' contracts: settings as the plain numbers that another language hands in, and a call of a
-- reader over a lent table. Definitions only.
use Rattle.std.specs.Prelude.{ℕ, ◌&&◌, List, eqb, length, Float}
use Rattle.answer.specs.Answers.{number_f32_of, value_f32_of}
use Rattle.sinc_settings.specs.declared.Settings.{Settings}
use Rattle.sinc_settings.specs.Ranges.{taps_ok, phases_ok}
use Rattle.sinc_settings.specs.Refusals.{table_length}
use Rattle.variable_delay.specs.declared.VariableDelay.{VariableDelay}
use Rattle.variable_delay.specs.declared.Processed.{Processed}
use Rattle.variable_delay.specs.Reader.{verdict, processed_by, ring_after}
use Rattle.variable_delay_f32.specs.declared.ProcessedF32.{ProcessedF32}
use Rattle.variable_delay_f32.specs.Call.{processed_f32_by}
use Rattle.sinc_read.specs.Reading.{sinc_at}
use Rattle.sinc_read_f32.specs.Reading.{sinc_f32_at}
use Rattle.answer_parts.specs.Left.{Left, leaves, left_by}

abbrev pub settings_of : ℕ → ℕ → Float → Float → Settings
settings_of taps phases cutoff beta = record { taps = taps; phases = phases; cutoff = cutoff; beta = beta }

-- The refusal number of a call. The taps and the phases are settings of the table, which must have its length.
abbrev pub call_verdict : VariableDelay → List Float → Float → Float → List Float → ℕ → ℕ → ℕ
call_verdict d ring input delay table taps phases =
    verdict (taps_ok taps && phases_ok phases) (eqb (length table) (table_length taps phases)) d (length ring) input
    delay

abbrev pub called : VariableDelay → List Float → Float → Float → List Float → ℕ → ℕ → Processed
called d ring input delay table taps phases =
    processed_by (sinc_at table taps phases) (call_verdict d ring input delay table taps phases) d ring input delay

abbrev pub called_f32 : VariableDelay → List Float → Float → Float → List Float → ℕ → ℕ → ProcessedF32
called_f32 d ring input delay table taps phases =
    processed_f32_by (sinc_f32_at table taps phases) (call_verdict d ring input delay table taps phases) d ring input
    delay

-- What the call leaves, for either width.
abbrev pub left_of : VariableDelay → List Float → Float → Float → List Float → ℕ → ℕ → Left Float ℕ
left_of d ring input delay table taps phases =
    left_by (called d ring input delay table taps phases)
    (ring_after (call_verdict d ring input delay table taps phases) d ring input)

abbrev pub left_f32_of : VariableDelay → List Float → Float → Float → List Float → ℕ → ℕ → Left Float ℕ
left_f32_of d ring input delay table taps phases =
    let p = called_f32 d ring input delay table taps phases in
    leaves (number_f32_of p.answer) (value_f32_of p.answer) p.state.accepted
    (ring_after (call_verdict d ring input delay table taps phases) d ring input)
