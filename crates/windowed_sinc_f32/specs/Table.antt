-- T1. The windowed sinc table in f32, and what a builder answers for each refusal. What it leaves in the lent slice is
-- windowed_sinc's `table_after`. Definitions only.
use Rattle.std.specs.Prelude.{ℕ, zero, suc, List, map, Float}
use Rattle.rounding.specs.Operations.{narrowed}
use Rattle.sinc_settings.specs.declared.Settings.{Settings}
use Rattle.bessel.specs.declared.Mode.{Mode}
use Rattle.bessel.specs.declared.Mode.TheVariants.{Ported}
use Rattle.windowed_sinc.specs.Table.{table_in}
use Rattle.windowed_sinc_f32.specs.declared.Built.{Built}
use Rattle.windowed_sinc_f32.specs.declared.Built.TheVariants.{Kernel, Refused}

-- Each coefficient of the f64 table is rounded once.
abbrev pub table_f32_in : Mode → Settings → List Float
table_f32_in mode s = map narrowed (table_in mode s)

-- 000's table, which is that of the ported mode.
abbrev pub table_f32_of : Settings → List Float
table_f32_of = table_f32_in Ported

-- W5e. The kernel of a table names its mode.
abbrev pub built_in : Mode → ℕ → Settings → Built
built_in mode zero s = Kernel (record { taps = s.taps; phases = s.phases; mode = mode })
built_in mode (suc k) s = Refused (suc k)

abbrev pub built_by : ℕ → Settings → Built
built_by = built_in Ported

-- C4. 01's number for each case, 0 for a kernel.
abbrev pub number_of : Built → ℕ
number_of (Kernel k) = 0
number_of (Refused k) = k
