-- 000's QualityVariableDelayF32::process_sample_rate_aware, over what each quality reads: which calls are refused, what
-- an accepted call stores, which qualities it reads, and what it leaves. Definitions only.
use Rattle.std.specs.Prelude.{ℕ, zero, suc, ◌+◌, Bool, false, cond, not, ◌&&◌, List, [], ◌∷◌, pos, ◌==◌}
use Rattle.std.specs.Prelude.{is_nan, nat_le, nat_lt, Float}
use Rattle.std.specs.Float.{fin, binary32}
use Rattle.std.specs.Float.Ieee.{add, sub, mul, div, le, of_int}
use Rattle.std.specs.Float.Ieee.Scale.{finite}
use Rattle.constants.specs.Numbers.{zero-f, limit, limit-f}
use Rattle.refusal_order.specs.Order.{◌unless◌, first_of}
use Rattle.answer.specs.Answers.{answer_f32_of}
use Rattle.min_max.specs.Choice.{smaller}
use Rattle.ring.specs.Length.{settings_ok, length_for}
use Rattle.variable_delay.specs.Reader.{Reading, stored, position_of}
use Rattle.variable_delay.specs.Reader as plain
use Rattle.quality_mode.specs.declared.QualityMode.{QualityMode}
use Rattle.quality_fade.specs.declared.Turn.{Turn}
use Rattle.quality_fade.specs.Fade.{length_ok}
use Rattle.returning_fade.specs.Rules.{place_ok}
use Rattle.returning_fade.specs.Step.{step_of, left_by}
use Rattle.quality_variable_delay.specs.declared.QualityVariableDelayF32.{QualityVariableDelayF32}
use Rattle.quality_variable_delay.specs.declared.ProcessedQ.{ProcessedQ}
use Rattle.quality_variable_delay.specs.State.{delay_part, fade_part, joined}

-- N1 to N9. The number of the refusal, 0 for none. `bank` says that the bank's rate is in range, `lent` that its lent
-- sets have their length. The crossfade's length is a setting; the qualities, its position, the rule and the direction
-- are fields of a state (W9h). A playback rate that is a NaN is refused whatever quality is requested (N7).
abbrev pub verdict : Bool → Bool → QualityVariableDelayF32 → ℕ → Float → Float → Float → ℕ
verdict bank lent d len x y playback-rate =
    first_of
    (1 unless (settings_ok d.maximum d.margin && (length_ok d.crossfade_samples && bank))
    ∷ 2 unless (len == length_for d.maximum d.margin && lent)
    ∷ 3 unless (nat_le d.accepted limit && place_ok (fade_part d))
    ∷ 4 unless finite x
    ∷ 5 unless (finite y && le zero-f y)
    ∷ 6 unless le y limit-f
    ∷ 7 unless not (is_nan playback-rate)
    ∷ 8 unless nat_lt d.accepted limit
    ∷ [])

-- 000's `(crossfade_position + 1) as f32 / crossfade_samples as f32`, at most 1.
abbrev pub weight_of : ℕ → ℕ → Float
weight_of weight crossfade-samples =
    smaller (div binary32 (of_int binary32 (pos weight)) (of_int binary32 (pos crossfade-samples)))
    (fin false 1 (pos 0))

-- 000's `from + (to - from) * mix`, each step rounded to f32.
abbrev pub mixed_of : Float → Float → Float → Float
mixed_of from to mix = add binary32 from (mul binary32 (sub binary32 to from) mix)

-- Q1. What a call's turn reads: both of its qualities, mixed, or the only one.
abbrev pub output_of : (QualityMode → Reading) → Turn → Reading
output_of read t xs count p =
    cond t.mixed
    (mixed_of (read t.from xs count p) (read t.to xs count p)
    (weight_of t.weight t.state.crossfade_samples)) (read t.to xs count p)

-- The state after a call with a verdict. An accepted call counts and takes its turn; a refusal changes nothing and
-- forgets the requested quality (D1c).
abbrev pub state_after : ℕ → QualityVariableDelayF32 → QualityMode → QualityVariableDelayF32
state_after zero d q =
    joined (record { maximum = d.maximum; margin = d.margin; accepted = d.accepted + 1 })
    (left_by (fade_part d) (step_of (fade_part d) q))
state_after (suc k) d q = d

-- K1, D1c. The ring after a call, which changes as in every delay reader.
abbrev pub ring_after : ℕ → QualityVariableDelayF32 → List Float → Float → List Float
ring_after v d xs x = plain.ring_after v (delay_part d) xs x

-- A call is refused with the state as it was, or its sample is stored and then the ring is read.
abbrev pub processed_by : (QualityMode → Reading) → ℕ → QualityVariableDelayF32 → List Float → Float → Float
    → QualityMode → ProcessedQ
processed_by read v d xs x y q = record {
  state = state_after v d q;
  answer =
      answer_f32_of v (output_of read (step_of (fade_part d) q).turn (stored d.accepted xs x) (d.accepted + 1)
      (position_of d.accepted y));
}
