-- W3. When a further sample leaves a reading alone. Definitions only.
use Rattle.std.specs.Prelude.{ℕ, Bool, ◌&&◌, cond, pos, Float}
use Rattle.ring.specs.Places.{position_ok}
use Rattle.ring.specs.Quick.{start_of}
use Rattle.sinc_settings.specs.Ranges.{taps_ok}
use Rattle.sinc_phases.specs.Phases.{first_tap}

-- The reading's taps are all among the last samples that the ring holds once the count is `after`, so the sample that
-- made it so took the place of none of them.
abbrev pub apart_of : ℕ → ℕ → Float → ℕ → Bool
apart_of len after p taps = (start_of len after (cond (taps_ok taps && position_ok p) (first_tap p taps) (pos 0))
    taps).held
