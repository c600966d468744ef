-- N1, N3. A quality as its number, and a reader's state as plain numbers. A number above 3 names no quality: as the
-- requested one it is an argument, refused by 1; in a state it is a field, refused by 3, after 1 and 2. So is a rule's
-- or a direction's number above 1, which only a state has (W9h). Definitions only.
use Rattle.std.specs.Prelude.{ℕ, zero, suc, Bool, true, false, ◌&&◌, cond, leb}
use Rattle.quality_mode.specs.declared.QualityMode.{QualityMode}
use Rattle.quality_mode.specs.declared.QualityMode.TheVariants.{Draft, Normal, Hq, Ultra}
use Rattle.quality_mode.specs.Quality.{code_of}
use Rattle.returning_fade.specs.declared.Rule.{Rule}
use Rattle.returning_fade.specs.declared.Rule.TheVariants.{Ported, Returning}
use Rattle.returning_fade.specs.declared.Direction.{Direction}
use Rattle.returning_fade.specs.declared.Direction.TheVariants.{Onwards, Back}
use Rattle.returning_fade.specs.Rules.{rule_code, direction_code}
use Rattle.quality_variable_delay.specs.declared.QualityVariableDelayF32.{QualityVariableDelayF32}
use Rattle.quality_codes.specs.declared.Coded.{Coded}

abbrev pub pick_mode : Bool → QualityMode → QualityMode → QualityMode
pick_mode true a b = a
pick_mode false a b = b

abbrev pub mode_of : ℕ → QualityMode
mode_of code = pick_mode (leb code 0) Draft (pick_mode (leb code 1) Normal (pick_mode (leb code 2) Hq Ultra))

abbrev pub code_ok : ℕ → Bool
code_ok code = leb code 3

-- W9h. 0 and 1 name the two rules, and the two directions.
abbrev pub rule_of : ℕ → Rule
rule_of zero = Ported
rule_of (suc k) = Returning

abbrev pub direction_of : ℕ → Direction
direction_of zero = Onwards
direction_of (suc k) = Back

abbrev pub one_of_two : ℕ → Bool
one_of_two code = leb code 1

abbrev pub decoded : Coded → QualityVariableDelayF32
decoded s = record {
  maximum = s.maximum;
  margin = s.margin;
  accepted = s.accepted;
  current_quality = mode_of s.current;
  target_quality = mode_of s.target;
  crossfade_position = s.crossfade_position;
  crossfade_samples = s.crossfade_samples;
  rule = rule_of s.rule;
  direction = direction_of s.direction;
}

abbrev pub coded : QualityVariableDelayF32 → Coded
coded d = record {
  maximum = d.maximum;
  margin = d.margin;
  accepted = d.accepted;
  current = code_of d.current_quality;
  target = code_of d.target_quality;
  crossfade_position = d.crossfade_position;
  crossfade_samples = d.crossfade_samples;
  rule = rule_code d.rule;
  direction = direction_code d.direction;
}

abbrev pub state_of : ℕ → ℕ → ℕ → ℕ → ℕ → ℕ → ℕ → ℕ → ℕ → Coded
state_of maximum margin accepted current target crossfade-position crossfade-samples rule direction =
    record {
      maximum = maximum;
      margin = margin;
      accepted = accepted;
      current = current;
      target = target;
      crossfade_position = crossfade-position;
      crossfade_samples = crossfade-samples;
      rule = rule;
      direction = direction;
    }

abbrev pub fields_ok : Coded → Bool
fields_ok s = (code_ok s.current && code_ok s.target) && (one_of_two s.rule && one_of_two s.direction)

-- The refusal when a number names nothing: 1 if it is the requested quality's; otherwise 3, unless v, the refusal
-- without it, is already 1 or 2.
abbrev pub odd_number : Bool → ℕ → ℕ
odd_number asked v = cond asked (cond (leb 1 v && leb v 2) v 3) 1
