-- The parts of a stretch as the code makes them: a state in which no fade runs and the stretch's quality is current,
-- and what is known where such a state is read from. What is promised stands in Reader.antt. Definitions only.
use Rattle.std.specs.Prelude.{ℕ, ◌*◌, ◌≡◌, Bool, true, not, ◌&&◌, List, [], ◌∷◌, eqb, leb, Float}
use Rattle.std.specs.Float.Ieee.{is_nan}
use Rattle.constants.specs.Numbers.{limit}
use Rattle.refusal_order.specs.Order.{◌unless◌, first_of}
use Rattle.ring.specs.Length.{settings_ok, length_for}
use Rattle.bank_choice.specs.Rates.{bank_ok, steps_of}
use Rattle.sinc_bank_f32.specs.Sets.{set_length}
use Rattle.quality_mode.specs.declared.QualityMode.{QualityMode}
use Rattle.quality_mode.specs.Quality.{same_q}
use Rattle.quality_fade.specs.Fade.{length_ok}
use Rattle.returning_fade.specs.Rules.{place_ok}
use Rattle.quality_variable_delay.specs.State.{fade_part, joined}
use Rattle.quality_variable_delay.specs.declared.QualityVariableDelayF32.{QualityVariableDelayF32}
use Rattle.quality_stretch.specs.Reader.{quality}

-- The current quality and the target are the one of the stretch, and the rate is a number.
abbrev pub at_rest : QualityVariableDelayF32 → QualityMode → Float → Bool
at_rest d q rate = (same_q d.current_quality q && same_q d.target_quality q) && not (is_nan rate)

-- The state with another count.
abbrev pub at_count : QualityVariableDelayF32 → ℕ → QualityVariableDelayF32
at_count d i = joined (record { maximum = d.maximum; margin = d.margin; accepted = i }) (fade_part d)

-- W3c. The number of the refusal before the first item, if n f32 values are lent as a bank. What the reader reads does
-- not matter to it.
abbrev pub first_due : ℕ → Float → QualityVariableDelayF32 → ℕ → ℕ → ℕ → ℕ → ℕ
first_due n max-rate d len inputs delays out =
    first_of
    (1 unless (settings_ok d.maximum d.margin && (length_ok d.crossfade_samples && bank_ok max-rate))
    ∷ 2 unless ((eqb len (length_for d.maximum d.margin) && eqb n (steps_of max-rate * set_length))
    && (eqb delays inputs && eqb out inputs))
    ∷ 3 unless (leb d.accepted limit && place_ok (fade_part d))
    ∷ [])

-- The tests 1 to 3 pass.
pub record Ready (sets : List Float) (max-rate : Float) (q : QualityMode) (rate : Float) (d : QualityVariableDelayF32)
    (len : ℕ) : Type 0 where
  pub settings : (quality sets max-rate q rate).settings d ≡ true
  pub lengths : (quality sets max-rate q rate).lent d len ≡ true
  pub field : (quality sets max-rate q rate).fields d ≡ true
