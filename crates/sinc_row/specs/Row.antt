-- T1. The row of a phase: a coefficient for each tap, divided by the sum of them all. The window is an argument.
-- Definitions only.
use Rattle.std.specs.Prelude.{ℕ, Bool, cond, ◌&&◌, List, leb, eqb, length, get_or, Float}
use Rattle.std.specs.Float.{nan, binary64}
use Rattle.std.specs.Float.Ieee.{add, div}
use Rattle.loop_laws.specs.Loops.{fold, list_of}
use Rattle.sinc_settings.specs.declared.Settings.{Settings}
use Rattle.sinc_settings.specs.Ranges.{zero-f, settings_ok}
use Rattle.bessel.specs.declared.Mode.{Mode}
use Rattle.bessel.specs.declared.Mode.TheVariants.{Ported}
use Rattle.sinc_row.specs.Coefficient.{window_in, distance_of, coefficient_of}

abbrev pub raw_of : Settings → (ℕ → Float) → ℕ → ℕ → Float
raw_of s window phase k = coefficient_of s.cutoff (distance_of s phase k) (window k)

-- In 000: `gain += coefficient`, here over the first n taps.
abbrev pub gain_of : Settings → (ℕ → Float) → ℕ → ℕ → Float
gain_of s window phase n = fold (λ (k : ℕ) (gain : Float). add binary64 gain (raw_of s window phase k)) zero-f n

abbrev pub row_of : Settings → (ℕ → Float) → ℕ → List Float
row_of s window phase =
    list_of (λ (k : ℕ). div binary64 (raw_of s window phase k) (gain_of s window phase s.taps)) s.taps

-- ---- what is written into a lent slice if the settings are in range and the lengths are the number of taps

abbrev pub window_ready : Settings → ℕ → Bool
window_ready s len = settings_ok s && eqb len s.taps

abbrev pub window_after_in : Mode → Settings → List Float → List Float
window_after_in mode s xs = cond (window_ready s (length xs)) (list_of (window_in mode s) s.taps) xs

abbrev pub window_after : Settings → List Float → List Float
window_after = window_after_in Ported

-- A lent window as a function of the tap.
abbrev pub at : List Float → ℕ → Float
at xs k = get_or xs k nan

abbrev pub row_ready : Settings → ℕ → ℕ → ℕ → Bool
row_ready s phase len lent = window_ready s len && leb phase s.phases && eqb lent s.taps

abbrev pub row_after : Settings → List Float → ℕ → List Float → List Float
row_after s window phase xs = cond (row_ready s phase (length xs) (length window)) (row_of s (at window) phase) xs
