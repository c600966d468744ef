-- The state of 000's QualityVariableDelayF32, with the rule and the direction (W9a), in two parts: the delay reader's,
-- and the change of quality's. Definitions only.
use Rattle.variable_delay.specs.declared.VariableDelay.{VariableDelay}
use Rattle.quality_fade.specs.Fade.{fade_of}
use Rattle.returning_fade.specs.declared.RuledFade.{RuledFade}
use Rattle.returning_fade.specs.Rules.{ruled}
use Rattle.quality_variable_delay.specs.declared.QualityVariableDelayF32.{QualityVariableDelayF32}

abbrev pub delay_part : QualityVariableDelayF32 → VariableDelay
delay_part d = record { maximum = d.maximum; margin = d.margin; accepted = d.accepted }

abbrev pub fade_part : QualityVariableDelayF32 → RuledFade
fade_part d =
    ruled d.rule d.direction
    (fade_of d.current_quality d.target_quality d.crossfade_position d.crossfade_samples)

abbrev pub joined : VariableDelay → RuledFade → QualityVariableDelayF32
joined d s = record {
  maximum = d.maximum;
  margin = d.margin;
  accepted = d.accepted;
  current_quality = s.fade.current;
  target_quality = s.fade.target;
  crossfade_position = s.fade.crossfade_position;
  crossfade_samples = s.fade.crossfade_samples;
  rule = s.rule;
  direction = s.direction;
}
