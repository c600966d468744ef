-- The second rule as the code computes it: what the ported rule's step is given for a fade and a request, and the
-- direction that is left. `PortedSteps` proves that this is `returning_step`. Definitions only.
use Rattle.std.specs.Prelude.{ℕ, ◌-◌, ◌&&◌, cond, leb}
use Rattle.quality_mode.specs.declared.QualityMode.{QualityMode}
use Rattle.quality_mode.specs.Quality.{same_q}
use Rattle.quality_fade.specs.declared.Fade.{Fade}
use Rattle.quality_fade.specs.Fade.{fade_of, length_ok}
use Rattle.quality_fade.specs.Step as ported
use Rattle.returning_fade.specs.declared.Rule.{Rule}
use Rattle.returning_fade.specs.declared.Rule.TheVariants.{Ported, Returning}
use Rattle.returning_fade.specs.declared.Direction.{Direction}
use Rattle.returning_fade.specs.declared.Direction.TheVariants.{Onwards, Back}
use Rattle.returning_fade.specs.declared.RuledTurn.{RuledTurn}
use Rattle.returning_fade.specs.declared.returning.Handed.{Handed}
use Rattle.returning_fade.specs.Rules.{backwards, returning_ok}
use Rattle.returning_fade.specs.Step.{aim_of}

abbrev pub handed : QualityMode → ℕ → QualityMode → Direction → Handed
handed target place asked direction =
    record { target = target; place = place; asked = asked; direction = direction }

abbrev pub aimed : Fade → QualityMode → Direction → Handed
aimed s q direction = handed s.target s.crossfade_position q direction

abbrev pub lower_aim : Fade → Handed
lower_aim s =
    cond (leb s.crossfade_position 1) (handed s.current s.crossfade_samples s.current Onwards)
    (handed s.target (s.crossfade_position - 2) s.target Back)

unfoldable pub aimed_at : Direction → Fade → QualityMode → Handed
aimed_at direction s q =
    cond (length_ok s.crossfade_samples && returning_ok direction s)
    (cond (same_q s.current s.target) (aimed s q Onwards)
    (cond (backwards (aim_of direction s q)) (lower_aim s) (aimed s s.target Onwards)))
    (aimed s q direction)

-- What the step is given by either rule.
abbrev pub handed_by : Rule → Direction → Fade → QualityMode → Handed
handed_by Ported direction s q = aimed s q direction
handed_by Returning direction s q = aimed_at direction s q

-- The ported rule's step of a fade with what it is given.
abbrev pub step_at : Fade → Handed → RuledTurn
step_at s h =
    record {
      turn = ported.step_of (fade_of s.current h.target h.place s.crossfade_samples) h.asked;
      direction = h.direction;
    }
