-- T1. A windowed sinc table, and what a builder answers and leaves in the lent slice, for each refusal. Definitions
-- only.
use Rattle.std.specs.Prelude.{ℕ, zero, suc, ◌+◌, List, Float}
use Rattle.loop_laws.specs.Loops.{rows}
use Rattle.sinc_settings.specs.declared.Settings.{Settings}
use Rattle.bessel.specs.declared.Mode.{Mode}
use Rattle.bessel.specs.declared.Mode.TheVariants.{Ported}
use Rattle.sinc_row.specs.Coefficient.{window_in}
use Rattle.sinc_row.specs.Row.{row_of}
use Rattle.windowed_sinc.specs.declared.Built.{Built}
use Rattle.windowed_sinc.specs.declared.Built.TheVariants.{Kernel, Refused}

-- The table under a window: a row for each phase from 0 to phases, each divided by its sum.
unfoldable pub table_under : (ℕ → Float) → Settings → List Float
table_under window s = rows (row_of s window) (s.phases + 1)

-- W5. The table under Kaiser's window in a mode.
abbrev pub table_in : Mode → Settings → List Float
table_in mode s = table_under (window_in mode s) s

-- 000's table, which is that of the ported mode.
abbrev pub table_of : Settings → List Float
table_of = table_in Ported

-- W5e. The kernel of a table names its mode.
abbrev pub built_in : Mode → ℕ → Settings → Built
built_in mode zero s = Kernel (record { taps = s.taps; phases = s.phases; cutoff = s.cutoff; mode = mode })
built_in mode (suc k) s = Refused (suc k)

abbrev pub built_by : ℕ → Settings → Built
built_by = built_in Ported

-- D1c. A refusal leaves every element as it was. This serves tables of either width.
abbrev pub table_after : ℕ → List Float → List Float → List Float
table_after zero made xs = made
table_after (suc k) made xs = xs

-- C4. 01's number for each case, 0 for a kernel.
abbrev pub number_of : Built → ℕ
number_of (Kernel k) = 0
number_of (Refused k) = k
