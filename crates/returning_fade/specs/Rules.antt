-- W9a, W9g. The two rules for a change of quality, the direction of a running fade, their numbers and their ranges, and
-- how opening and reset leave them. Definitions only.
use Rattle.std.specs.Prelude.{ℕ, Bool, true, false, not, ◌&&◌, cond, leb, ltb}
use Rattle.quality_mode.specs.declared.QualityMode.{QualityMode}
use Rattle.quality_mode.specs.Quality.{same_q}
use Rattle.quality_fade.specs.declared.Fade.{Fade}
use Rattle.quality_fade.specs.Fade.{length_ok}
use Rattle.quality_fade.specs.Fade as ported
use Rattle.returning_fade.specs.declared.Rule.{Rule}
use Rattle.returning_fade.specs.declared.Rule.TheVariants.{Ported, Returning}
use Rattle.returning_fade.specs.declared.Direction.{Direction}
use Rattle.returning_fade.specs.declared.Direction.TheVariants.{Onwards, Back}
use Rattle.returning_fade.specs.declared.RuledFade.{RuledFade}

-- The numbers of rules and directions, for interfaces that pass only numbers.
abbrev pub rule_code : Rule → ℕ
rule_code Ported = 0
rule_code Returning = 1

abbrev pub direction_code : Direction → ℕ
direction_code Onwards = 0
direction_code Back = 1

abbrev pub backwards : Direction → Bool
backwards Onwards = false
backwards Back = true

abbrev pub ruled : Rule → Direction → Fade → RuledFade
ruled rule direction s = record { rule = rule; direction = direction; fade = s }

-- W9g. By the ported rule no fade goes back, and the place is in 01's range. By the second rule, if current and target
-- are the same, nothing goes back and the place is from 0 to the length; if they differ, it is above 0 and below the
-- length.
unfoldable pub returning_ok : Direction → Fade → Bool
returning_ok direction s =
    cond (same_q s.current s.target)
    (not (backwards direction) && leb s.crossfade_position s.crossfade_samples)
    (ltb 0 s.crossfade_position && ltb s.crossfade_position s.crossfade_samples)

abbrev pub place_by : Rule → Direction → Fade → Bool
place_by Ported direction s = not (backwards direction) && ported.place_ok s
place_by Returning direction s = returning_ok direction s

abbrev pub place_ok : RuledFade → Bool
place_ok s = place_by s.rule s.direction s.fade

abbrev pub valid_of : RuledFade → Bool
valid_of s = length_ok s.fade.crossfade_samples && place_ok s

-- Q3. Opening and reset leave nothing to fade, by either rule; a reset keeps the rule.
abbrev pub open_of : Rule → QualityMode → ℕ → RuledFade
open_of rule q crossfade-samples = ruled rule Onwards (ported.open_of q crossfade-samples)

abbrev pub reset_of : RuledFade → RuledFade
reset_of s = ruled s.rule Onwards (ported.reset_of s.fade)
