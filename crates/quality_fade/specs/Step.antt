-- Q1, Q2. What one accepted call reads and leaves, by 000's rule (01, 'Changing quality'). Definitions only.
use Rattle.std.specs.Prelude.{◌+◌, Bool, true, false, ◌||◌, cond, leb, eqb}
use Rattle.quality_mode.specs.declared.QualityMode.{QualityMode}
use Rattle.quality_mode.specs.Quality.{same_q}
use Rattle.quality_fade.specs.declared.Fade.{Fade}
use Rattle.quality_fade.specs.declared.Turn.{Turn}
use Rattle.quality_fade.specs.Fade.{fade_of, valid_of}

-- A quality other than the target becomes the target, and the fade starts again from the current one.
abbrev pub asked_of : Fade → QualityMode → Fade
asked_of s q = cond (same_q q s.target) s (fade_of s.current q 0 s.crossfade_samples)

-- Nothing is mixed if the current quality is the target, or if the length is 0.
abbrev pub plain_of : Fade → Bool
plain_of s = same_q s.current s.target || eqb s.crossfade_samples 0

-- A plain call reads the target, which is the current quality from then on.
abbrev pub plain_turn : Fade → Turn
plain_turn s =
    record {
      state = fade_of s.target s.target s.crossfade_position s.crossfade_samples;
      mixed = false;
      from = s.target;
      to = s.target;
      weight = 0;
    }

-- A mixed call reads both qualities; the target's weight is its position plus 1, over the length. The call that reaches
-- the length makes the target current.
abbrev pub mix_turn : Fade → Turn
mix_turn s = record {
  state =
      fade_of (cond (leb s.crossfade_samples (s.crossfade_position + 1)) s.target s.current) s.target
      (s.crossfade_position + 1) s.crossfade_samples;
  mixed = true;
  from = s.current;
  to = s.target;
  weight = s.crossfade_position + 1;
}

abbrev pub turn_of : Fade → Turn
turn_of s = cond (plain_of s) (plain_turn s) (mix_turn s)

-- No accepted call has a state out of range (N3). Such a state is left as it is.
abbrev pub still_turn : Fade → Turn
still_turn s = record { state = s; mixed = false; from = s.target; to = s.target; weight = 0 }

-- One accepted call that requests q.
unfoldable pub step_of : Fade → QualityMode → Turn
step_of s q = cond (valid_of s) (turn_of (asked_of s q)) (still_turn s)
