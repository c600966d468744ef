-- G5. The ranges of a table's settings, and of the rate and the passband of for_max_rate. A NaN lies in none.
-- Definitions only.
use Rattle.std.specs.Prelude.{ℕ, ◌%◌, Bool, false, ◌&&◌, eqb, leb, pos, negsuc, Float}
use Rattle.std.specs.Float.{fin}
use Rattle.std.specs.Float.Ieee.{lt, le}
pub use Rattle.constants.specs.Numbers.{zero-f, one-f, two-f}
use Rattle.sinc_settings.specs.declared.Settings.{Settings}

-- The taps are even and from 4 to 128.
abbrev pub taps_ok : ℕ → Bool
taps_ok taps = leb 4 taps && leb taps 128 && eqb (taps % 2) 0

-- The phases are from 2 to 4096.
abbrev pub phases_ok : ℕ → Bool
phases_ok phases = leb 2 phases && leb phases 4096

-- The cutoff is from 1/1024 to 1.
abbrev pub cutoff_ok : Float → Bool
cutoff_ok x = le (fin false 1 (negsuc 9)) x && le x one-f

-- Beta is from 0 to 20.
abbrev pub beta_ok : Float → Bool
beta_ok x = le zero-f x && le x (fin false 5 (pos 2))

abbrev pub settings_ok : Settings → Bool
settings_ok s = taps_ok s.taps && phases_ok s.phases && (cutoff_ok s.cutoff && beta_ok s.beta)

-- For for_max_rate the rate is from 1 to 2, and the passband above 0 and at most 1.
abbrev pub rate_ok : Float → Bool
rate_ok rate = le one-f rate && le rate two-f

abbrev pub passband_ok : Float → Bool
passband_ok passband = lt zero-f passband && le passband one-f
