-- G2, Q3. What a reader holds of its qualities (01, 'Changing quality'): current and target, the crossfade's position
-- and its length in samples; their ranges, and how opening and reset leave them. Definitions only.
use Rattle.std.specs.Prelude.{ℕ, Bool, ◌&&◌, cond, leb, ltb}
use Rattle.quality_mode.specs.declared.QualityMode.{QualityMode}
use Rattle.quality_mode.specs.Quality.{same_q}
use Rattle.quality_fade.specs.declared.Fade.{Fade}

abbrev pub fade_of : QualityMode → QualityMode → ℕ → ℕ → Fade
fade_of current target crossfade-position crossfade-samples =
    record {
      current = current;
      target = target;
      crossfade_position = crossfade-position;
      crossfade_samples = crossfade-samples;
    }

-- G2. The crossfade is 0 to 16777216 calls long.
abbrev pub length_ok : ℕ → Bool
length_ok crossfade-samples = leb crossfade-samples 16777216

-- G2. The place is from 0 to the length, and below the length if current and target differ.
unfoldable pub place_ok : Fade → Bool
place_ok s =
    cond (same_q s.current s.target) (leb s.crossfade_position s.crossfade_samples)
    (ltb s.crossfade_position s.crossfade_samples)

abbrev pub valid_of : Fade → Bool
valid_of s = length_ok s.crossfade_samples && place_ok s

-- Q3. After opening, the one quality is current and target, and the place is the length.
abbrev pub open_of : QualityMode → ℕ → Fade
open_of q crossfade-samples = fade_of q q crossfade-samples crossfade-samples

-- Q3. A reset makes the target current and sets the place to the length.
abbrev pub reset_of : Fade → Fade
reset_of s = open_of s.target s.crossfade_samples
