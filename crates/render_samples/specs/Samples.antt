-- X2. What the program `render` does with a sample. Definitions only.
use Rattle.std.specs.Prelude.{ℕ, true, false, List, [], ◌∷◌, eqb, pos, length, Float}
use Rattle.std.specs.Float.{nan, fin, binary64}
use Rattle.std.specs.Float.Ieee.{add}
use Rattle.answer.specs.Answers.{value_f32_of}
use Rattle.answer.specs.declared.AnswerF32.{AnswerF32}
use Rattle.sinc_settings.specs.Refusals.{table_length}
use Rattle.modulation_params.specs.Settings.{default_params}
use Rattle.modulation.specs.Step.{next_of}
use Rattle.modulation_sample.specs.declared.Next.{Next}
use Rattle.modulation_sample.specs.declared.Offset.{Offset}
use Rattle.modulation_sample.specs.declared.Offset.TheVariants.{Delay, Refused}
use Rattle.variable_delay.specs.Reader.{verdict, state_after, ring_after}
use Rattle.variable_delay_f32.specs.Call.{processed_f32_by}
use Rattle.sinc_read_f32.specs.Reading.{sinc_f32_at}
use Rattle.render_samples.specs.declared.Rendering.{Rendering}

-- A rendering between two samples: its state, and the ring.
pub record Held : Type 0 where
  pub state : Rendering
  pub ring : List Float

abbrev pub held_of : Rendering → List Float → Held
held_of s ring = record { state = s; ring = ring }

-- The settings are 001's defaults. The engine steps at every sample, even if that is refused.
abbrev pub turned : Held → Next
turned h = next_of h.state.engine default_params

-- The delay is 512 plus the left offset. A state that the engine refuses has no offset; it gives a NaN, which the
-- reader refuses. From opening on the engine refuses nothing (crates/render_start/proofs/EngineNeverRefuses.antt).
abbrev pub delay_of : Offset → Float
delay_of (Delay d) = add binary64 (fin false 1 (pos 9)) d.left
delay_of (Refused k) = nan

abbrev pub delay_for : Held → Float
delay_for h = delay_of (turned h).offset

-- The number of the refusal, 0 for none. The 32 taps and 64 phases are in range.
abbrev pub due_for : List Float → Held → Float → ℕ
due_for table h x =
    verdict true (eqb (length table) (table_length 32 64)) h.state.reader (length h.ring) x (delay_for h)

abbrev pub answer_to : List Float → Held → Float → AnswerF32
answer_to table h x =
    (processed_f32_by (sinc_f32_at table 32 64) (due_for table h x) h.state.reader h.ring x (delay_for h)).answer

-- What is written for a sample: 0.0 if it is refused.
abbrev pub sample_for : List Float → Held → Float → Float
sample_for table h x = value_f32_of (answer_to table h x)

abbrev pub after_sample : List Float → Held → Float → Held
after_sample table h x = record {
  state = record { reader = state_after (due_for table h x) h.state.reader; engine = (turned h).engine };
  ring = ring_after (due_for table h x) h.state.reader h.ring x;
}

-- What is written for samples one after the other, and the rendering after them.
unfoldable pub answers_for : List Float → Held → List Float → List Float
answers_for table h [] = []
answers_for table h (x ∷ xs) = sample_for table h x ∷ answers_for table (after_sample table h x) xs

unfoldable pub after_samples : List Float → Held → List Float → Held
after_samples table h [] = h
after_samples table h (x ∷ xs) = after_samples table (after_sample table h x) xs
