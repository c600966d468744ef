-- The definitions in the exports' contracts: what a call of a reader that reports absent taps leaves, with all that it
-- returns and writes in one record. Definitions only.
use Rattle.std.specs.Prelude.{ℕ, Bool, true, ◌&&◌, List, eqb, length, Float}
use Rattle.answer.specs.Answers.{number_of, value_of, number_f32_of, value_f32_of}
use Rattle.variable_delay.specs.declared.VariableDelay.{VariableDelay}
use Rattle.variable_delay.specs.Reader.{Reading, verdict, ring_after}
use Rattle.sinc_settings.specs.Ranges.{taps_ok, phases_ok}
use Rattle.sinc_settings.specs.Refusals.{table_length}
use Rattle.sinc_read.specs.Reading.{sinc_at}
use Rattle.sinc_read_f32.specs.Reading.{sinc_f32_at}
use Rattle.absent_taps.specs.declared.Absent.{Absent}
use Rattle.told_delays.specs.declared.Told.{Told}
use Rattle.told_delays.specs.declared.ToldF32.{ToldF32}
use Rattle.told_delays.specs.Told.{told_by, told_f32_by}

-- The number of the refusal, 0 for none; the sample, 0.0 if there is none; the count; the ring; the absent taps by
-- kind.
pub record Left : Type 0 where
  pub number : ℕ
  pub sample : Float
  pub count : ℕ
  pub ring : List Float
  pub absent : Absent

abbrev pub leaves : ℕ → Float → ℕ → List Float → Absent → Left
leaves number sample count ring absent =
    record { number = number; sample = sample; count = count; ring = ring; absent = absent }

abbrev pub left_told : Told → List Float → Left
left_told t ring = record {
  number = number_of t.answer;
  sample = value_of t.answer;
  count = t.state.accepted;
  ring = ring;
  absent = t.absent;
}

abbrev pub left_told_f32 : ToldF32 → List Float → Left
left_told_f32 t ring = record {
  number = number_f32_of t.answer;
  sample = value_f32_of t.answer;
  count = t.state.accepted;
  ring = ring;
  absent = t.absent;
}

-- A call with a kernel of n taps without a table. `own` says that its settings are in range.
abbrev pub left_by : Bool → Reading → ℕ → VariableDelay → List Float → Float → Float → Left
left_by own read n d ring input delay =
    let v = verdict own true d (length ring) input delay in
    left_told (told_by read n v d ring input delay) (ring_after v d ring input)

-- A call over a lent table, whose taps and phases are settings and which must have its length.
abbrev pub table_verdict : List Float → ℕ → ℕ → VariableDelay → List Float → Float → Float → ℕ
table_verdict table taps phases d ring input delay =
    verdict (taps_ok taps && phases_ok phases) (eqb (length table) (table_length taps phases)) d (length ring) input
    delay

abbrev pub left_of_table : List Float → ℕ → ℕ → VariableDelay → List Float → Float → Float → Left
left_of_table table taps phases d ring input delay =
    let v = table_verdict table taps phases d ring input delay in
    left_told (told_by (sinc_at table taps phases) taps v d ring input delay) (ring_after v d ring input)

abbrev pub left_of_table_f32 : List Float → ℕ → ℕ → VariableDelay → List Float → Float → Float → Left
left_of_table_f32 table taps phases d ring input delay =
    let v = table_verdict table taps phases d ring input delay in
    left_told_f32 (told_f32_by (sinc_f32_at table taps phases) taps v d ring input delay) (ring_after v d ring input)
