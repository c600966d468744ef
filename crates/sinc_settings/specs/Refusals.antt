-- N1, N2. Which refusal is given when a table is lent: 1 for a setting out of range, 2 for another length, 0 for none.
-- Definitions only.
use Rattle.std.specs.Prelude.{ℕ, ◌+◌, ◌*◌, ◌&&◌, [], ◌∷◌, eqb, Float}
use Rattle.std.specs.Float.{binary64}
use Rattle.std.specs.Float.Ieee.{div}
use Rattle.refusal_order.specs.Order.{◌unless◌, first_of}
use Rattle.sinc_settings.specs.declared.Settings.{Settings}
use Rattle.sinc_settings.specs.Ranges.{taps_ok, phases_ok, settings_ok, rate_ok, passband_ok}

-- A table has a row for each phase from 0 to phases, both included.
abbrev pub table_length : ℕ → ℕ → ℕ
table_length taps phases = (phases + 1) * taps

-- The refusal when a table is lent to a reader.
abbrev pub table_verdict : ℕ → ℕ → ℕ → ℕ
table_verdict taps phases len =
    first_of (1 unless (taps_ok taps && phases_ok phases) ∷ 2 unless eqb len (table_length taps phases) ∷ [])

-- The refusal when a table is lent to a builder.
abbrev pub verdict : Settings → ℕ → ℕ
verdict s len = first_of (1 unless settings_ok s ∷ 2 unless eqb len (table_length s.taps s.phases) ∷ [])

-- In 000's for_max_rate the cutoff is passband / rate. The rate and the passband are settings too.
abbrev pub for_rate : ℕ → ℕ → Float → Float → Float → Settings
for_rate taps phases rate passband beta =
    record { taps = taps; phases = phases; cutoff = div binary64 passband rate; beta = beta }

abbrev pub rate_verdict : Settings → Float → Float → ℕ → ℕ
rate_verdict s rate passband len =
    first_of
    (1 unless ((rate_ok rate && passband_ok passband) && settings_ok s)
    ∷ 2 unless eqb len (table_length s.taps s.phases)
    ∷ [])
