-- W9c, W9d. What one accepted call reads and leaves, by either rule. Definitions only.
use Rattle.std.specs.Prelude.{◌-◌, true, false, ◌&&◌, cond, leb}
use Rattle.quality_mode.specs.declared.QualityMode.{QualityMode}
use Rattle.quality_mode.specs.Quality.{same_q}
use Rattle.quality_fade.specs.declared.Fade.{Fade}
use Rattle.quality_fade.specs.Fade.{fade_of, length_ok, open_of}
use Rattle.quality_fade.specs.Step.{asked_of, mix_turn, turn_of}
use Rattle.quality_fade.specs.Step as ported
use Rattle.returning_fade.specs.declared.Rule.{Rule}
use Rattle.returning_fade.specs.declared.Rule.TheVariants.{Ported, Returning}
use Rattle.returning_fade.specs.declared.Direction.{Direction}
use Rattle.returning_fade.specs.declared.Direction.TheVariants.{Onwards, Back}
use Rattle.returning_fade.specs.declared.RuledFade.{RuledFade}
use Rattle.returning_fade.specs.declared.RuledTurn.{RuledTurn}
use Rattle.returning_fade.specs.Rules.{backwards, ruled, returning_ok}

-- W9c, W9d. The direction of a running fade: onwards if its target is requested, back if the current quality is. A
-- third quality waits, and the fade keeps its direction.
abbrev pub aim_of : Direction → Fade → QualityMode → Direction
aim_of direction s q = cond (same_q q s.target) Onwards (cond (same_q q s.current) Back direction)

-- One step up is the ported rule's mixed call.
abbrev pub on_turn : Fade → RuledTurn
on_turn s = record { turn = mix_turn s; direction = Onwards }

-- One step down, with the same two qualities in the same order. At the weight 0 the current quality is read alone, and
-- the fade has ended in the state that opening with that quality leaves.
abbrev pub lowered : Fade → RuledTurn
lowered s = record {
  turn = record {
    state = fade_of s.current s.target (s.crossfade_position - 1) s.crossfade_samples;
    mixed = true;
    from = s.current;
    to = s.target;
    weight = s.crossfade_position - 1;
  };
  direction = Back;
}

abbrev pub back_again : Fade → RuledTurn
back_again s = record {
  turn = record {
    state = open_of s.current s.crossfade_samples;
    mixed = false;
    from = s.current;
    to = s.current;
    weight = 0;
  };
  direction = Onwards;
}

abbrev pub lower_turn : Fade → RuledTurn
lower_turn s = cond (leb s.crossfade_position 1) (back_again s) (lowered s)

-- A fade runs if current and target differ. If none runs, a call starts one as by the ported rule.
abbrev pub returning_turn : Direction → Fade → QualityMode → RuledTurn
returning_turn direction s q =
    cond (same_q s.current s.target) (record { turn = turn_of (asked_of s q); direction = Onwards })
    (cond (backwards (aim_of direction s q)) (lower_turn s) (on_turn s))

-- No accepted call has a state out of range (N3). For such a state this is the ported rule's call.
unfoldable pub returning_step : Direction → Fade → QualityMode → RuledTurn
returning_step direction s q =
    cond (length_ok s.crossfade_samples && returning_ok direction s) (returning_turn direction s q)
    (record { turn = ported.step_of s q; direction = direction })

-- One accepted call that requests q, by the rule with which the reader was opened, and what it leaves. The ported
-- rule's call is `quality_fade`'s (W9b).
abbrev pub step_by : Rule → Direction → Fade → QualityMode → RuledTurn
step_by Ported direction s q = record { turn = ported.step_of s q; direction = direction }
step_by Returning direction s q = returning_step direction s q

abbrev pub step_of : RuledFade → QualityMode → RuledTurn
step_of s q = step_by s.rule s.direction s.fade q

abbrev pub left_by : RuledFade → RuledTurn → RuledFade
left_by s t = ruled s.rule t.direction t.turn.state
