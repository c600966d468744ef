-- W3, W3f. QualityVariableDelayF32 as a reader of stretches: its tests 1 to 3, and its single call with the one quality
-- and the one rate of the stretch, so that a fade goes on from item to item. Definitions only.
use Rattle.std.specs.Prelude.{◌*◌, ◌&&◌, List, eqb, leb, length, Float}
use Rattle.constants.specs.Numbers.{limit}
use Rattle.answer.specs.Answers.{number_f32_of, value_f32_of}
use Rattle.ring.specs.Length.{settings_ok, length_for}
use Rattle.bank_choice.specs.Rates.{bank_ok, steps_of}
use Rattle.sinc_bank_f32.specs.Sets.{set_length}
use Rattle.quality_mode.specs.declared.QualityMode.{QualityMode}
use Rattle.quality_fade.specs.Fade.{length_ok}
use Rattle.returning_fade.specs.Rules.{place_ok}
use Rattle.quality_variable_delay.specs.State.{fade_part}
use Rattle.quality_variable_delay.specs.Bank.{processed, ring_left}
use Rattle.quality_variable_delay.specs.declared.QualityVariableDelayF32.{QualityVariableDelayF32}
use Rattle.quality_variable_delay.specs.declared.ProcessedQ.{ProcessedQ}
use Rattle.stretch.specs.Stretch.{Called, Call, Ran}
use Rattle.stretch.specs.Whole.{Reader, done_of, out_after, whole_of}
use Rattle.quality_stretch.specs.declared.StretchedQ.{StretchedQ}

abbrev pub called_by : ProcessedQ → List Float → Called QualityVariableDelayF32
called_by p ring =
    record {
      state = p.state;
      ring = ring;
      number = number_f32_of p.answer;
      sample = value_f32_of p.answer;
    }

-- A single call, of the quality and at the rate of the stretch.
unfoldable pub call_of : List Float → Float → QualityMode → Float → Call QualityVariableDelayF32
call_of sets max-rate q rate d ring x y =
    called_by (processed sets max-rate d ring x y q rate) (ring_left sets max-rate d ring x y rate)

abbrev pub quality : List Float → Float → QualityMode → Float → Reader QualityVariableDelayF32
quality sets max-rate q rate =
    record {
      settings =
          λ d. settings_ok d.maximum d.margin && (length_ok d.crossfade_samples && bank_ok max-rate);
      lent =
          λ d len. eqb len (length_for d.maximum d.margin) && eqb (length sets) (steps_of max-rate * set_length);
      fields = λ d. leb d.accepted limit && place_ok (fade_part d);
      call = call_of sets max-rate q rate;
    }

-- All that a whole call answers and leaves, its ring and its output included.
pub record Left : Type 0 where
  pub answer : StretchedQ
  pub ring : List Float
  pub out : List Float

abbrev pub leaves : StretchedQ → List Float → List Float → Left
leaves answer ring out = record { answer = answer; ring = ring; out = out }

abbrev pub answer_of : Ran QualityVariableDelayF32 → StretchedQ
answer_of r = record { state = r.state; done = done_of r; refusal = r.number }

abbrev pub left_by : List Float → Ran QualityVariableDelayF32 → Left
left_by out r = leaves (answer_of r) r.ring (out_after out r)

abbrev pub left_of : List Float → Float → QualityMode → Float → QualityVariableDelayF32 → List Float → List Float
    → List Float → List Float → Left
left_of sets max-rate q rate d ring inputs delays out =
    left_by out (whole_of (quality sets max-rate q rate) d ring inputs delays (length out))
