-- T1. What a builder leaves: the refusal number, which it returns, 0 for none, and the table, in f64 or in f32.
-- Definitions only.
use Rattle.std.specs.Prelude.{ℕ, List, length, Float}
use Rattle.sinc_settings.specs.declared.Settings.{Settings}
use Rattle.sinc_settings.specs.Refusals.{verdict, for_rate, rate_verdict}
use Rattle.bessel.specs.declared.Mode.{Mode}
use Rattle.bessel.specs.declared.Mode.TheVariants.{Ported}
use Rattle.bessel.specs.Modes.{mode_of, due_in}
use Rattle.windowed_sinc.specs.Table.{table_in, table_after, built_in, number_of}
use Rattle.windowed_sinc_f32.specs.Table as single

pub record Made : Type 0 where
  pub number : ℕ
  pub table : List Float

abbrev pub makes : ℕ → List Float → Made
makes number table = record { number = number; table = table }

-- What is left in a mode, for a refusal number and the settings.
abbrev pub made_in : Mode → ℕ → Settings → List Float → Made
made_in mode v s table = makes (number_of (built_in mode v s)) (table_after v (table_in mode s) table)

abbrev pub made_f32_in : Mode → ℕ → Settings → List Float → Made
made_f32_in mode v s table =
    makes (single.number_of (single.built_in mode v s)) (table_after v (single.table_f32_in mode s) table)

-- 000's table, which is that of the ported mode.
abbrev pub made_by : ℕ → Settings → List Float → Made
made_by = made_in Ported

abbrev pub made_f32_by : ℕ → Settings → List Float → Made
made_f32_by = made_f32_in Ported

-- W5. The same for the number of a mode; one that is no mode's is refused by 1.
abbrev pub coded : (Mode → ℕ → Settings → List Float → Made) → ℕ → ℕ → Settings → List Float → Made
coded made code v = made (mode_of code) (due_in code v)

-- The builders `new` and `for_max_rate`, of either width.
abbrev pub new_of : (ℕ → Settings → List Float → Made) → Settings → List Float → Made
new_of made s table = made (verdict s (length table)) s table

abbrev pub for_rate_of : (ℕ → Settings → List Float → Made) → ℕ → ℕ → Float → Float → Float → List Float → Made
for_rate_of made taps phases rate passband beta table =
    let s = for_rate taps phases rate passband beta in
    made (rate_verdict s rate passband (length table)) s table
