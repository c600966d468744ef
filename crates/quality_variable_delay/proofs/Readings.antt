-- What an accepted call answers, whatever each quality reads. By the ported rule (Q1, Q2) a quality that is already
-- current is read alone, at once, and a new one starts from the current one with the weight 1 over the fade length. By
-- the second rule (W9c) going back mixes the same two qualities with a weight that is one lower. Assumes nothing.
use Rattle.std.proofs.Common.{◌≡◌, ℕ, ◌-◌, ◌<◌, true, false, List, ap, ◌∙◌, subst}
use lib.Ieee.{Float}
use Rattle.variable_delay.specs.Reader.{Reading}
use Rattle.quality_mode.specs.declared.QualityMode.{QualityMode}
use Rattle.quality_mode.specs.Quality.{same_q}
use Rattle.quality_fade.specs.declared.Turn.{Turn}
use Rattle.quality_fade.specs.Fade.{length_ok}
use Rattle.quality_fade.proofs.OneCall.{back, third, never-mixed, reads-asked}
use Rattle.quality_fade.proofs.StaysInRange.{both}
use Rattle.returning_fade.specs.declared.Rule.{Rule}
use Rattle.returning_fade.specs.declared.Rule.TheVariants.{Ported, Returning}
use Rattle.returning_fade.specs.declared.RuledTurn.{RuledTurn}
use Rattle.returning_fade.specs.Rules.{ruled, valid_of}
use Rattle.returning_fade.specs.Step.{step_of, step_by}
use Rattle.returning_fade.proofs.PortedRule as ported
use Rattle.returning_fade.proofs.PortedSteps.{between}
use Rattle.returning_fade.proofs.OneCall as returning
use Rattle.quality_variable_delay.specs.State.{fade_part}
use Rattle.quality_variable_delay.specs.Reader.{weight_of, mixed_of, output_of}
use Rattle.quality_variable_delay.specs.declared.QualityVariableDelayF32.{QualityVariableDelayF32}

module _ (read : QualityMode → Reading) (d : QualityVariableDelayF32) (xs : List Float) (count : ℕ) (p : Float)
    (v : valid_of (fade_part d) ≡ true) where
  abbrev answered : QualityMode → Float
  answered q = output_of read (step_of (fade_part d) q).turn xs count p

  -- The rule is the ported one.
  module _ (e : d.rule ≡ Ported) where
    -- Q2. The current quality is requested, during a fade or not.
    pub goes_back : answered d.current_quality ≡ read d.current_quality xs count p
    goes_back =
        ap (λ (t : Turn). output_of read t xs count p)
        (ported.step (fade_part d) e d.current_quality
        ∙ back (fade_part d).fade (ported.valid (fade_part d) e v))

    -- Q1, Q2. A quality other than the target and the current is requested.
    pub starts-anew : (q : QualityMode) → same_q q d.target_quality ≡ false
        → same_q d.current_quality q ≡ false → 0 < d.crossfade_samples
        → answered q
        ≡ mixed_of (read d.current_quality xs count p) (read q xs count p) (weight_of 1 d.crossfade_samples)
    starts-anew q ht hc l =
        ap (λ (t : Turn). output_of read t xs count p)
        (ported.step (fade_part d) e q ∙ third (fade_part d).fade q (ported.valid (fade_part d) e v) ht hc l)

    -- Q2. At length 0 the requested quality is read, whatever was current.
    pub never-mixes : (q : QualityMode) → d.crossfade_samples ≡ 0 → answered q ≡ read q xs count p
    never-mixes q z =
        rw (
          ported.step (fade_part d) e q,
          never-mixed (fade_part d).fade q z,
          reads-asked (fade_part d).fade q (ported.valid (fade_part d) e v),
        )

  -- W9c. The rule is the second one, and the current quality is requested during a fade.
  pub runs-down : d.rule ≡ Returning → same_q d.current_quality d.target_quality ≡ false
      → 1 < d.crossfade_position
      → answered d.current_quality
      ≡ mixed_of (read d.current_quality xs count p) (read d.target_quality xs count p)
      (weight_of (d.crossfade_position - 1) d.crossfade_samples)
  runs-down e h l =
      let s = (fade_part d).fade in
      let t = both (length_ok s.crossfade_samples) _
      (subst (λ (r : Rule). valid_of (ruled r d.direction s) ≡ true) e v) in
      let b = between d.direction s t.0 t.1 h in
      ap (λ (t : RuledTurn). output_of read t.turn xs count p)
      (ap (λ (r : Rule). step_by r d.direction s s.current) e
      ∙ returning.goes_back s.crossfade_samples s.current s.target s.crossfade_position
      d.direction t.0 (h, b.0, b.1) l)
