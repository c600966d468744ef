-- T3. 000's RateSincSetF32 and SincBankF32: a set is the tables of Normal, Hq and Ultra for one rate, one behind the
-- other, and a bank its sets. Definitions only.
use Rattle.std.specs.Prelude.{ℕ, ◌+◌, ◌-◌, ◌*◌, false, cond, List, ◌++◌, pos, negsuc, take, drop, Float}
use Rattle.std.specs.Float.{fin}
pub use Rattle.constants.specs.Numbers.{set_length}
use Rattle.loop_laws.specs.Loops.{rows}
use Rattle.sinc_settings.specs.declared.Settings.{Settings}
use Rattle.sinc_settings.specs.Refusals.{for_rate}
use Rattle.bessel.specs.declared.Mode.{Mode}
use Rattle.bessel.specs.declared.Mode.TheVariants.{Ported}
use Rattle.windowed_sinc_f32.specs.Table.{table_f32_in}
use Rattle.bank_choice.specs.Rates.{bank_ok, steps_of, rate_of}

-- The f64 nearest to 0.995.
abbrev pub passband : Float
passband = fin false 8962163258467287 (negsuc 52)

-- The settings of 000's three tables: Normal, Hq and Ultra.
abbrev pub normal_at : Float → Settings
normal_at rate = for_rate 80 2048 rate passband (fin false 3 (pos 2))

abbrev pub hq_at : Float → Settings
hq_at rate = for_rate 96 4096 rate passband (fin false 7 (pos 1))

abbrev pub ultra_at : Float → Settings
ultra_at rate = for_rate 128 4096 rate passband (fin false 1 (pos 4))

-- W5. A set, with all three tables in one mode.
unfoldable pub set_in : Mode → Float → List Float
set_in mode rate =
    table_f32_in mode (normal_at rate) ++ (table_f32_in mode (hq_at rate) ++ table_f32_in mode (ultra_at rate))

-- 000's set, which is that of the ported mode.
abbrev pub set_of : Float → List Float
set_of = set_in Ported

-- A slice into which ys has been written from `start` to `end`.
unfoldable pub with_part : ℕ → ℕ → List Float → List Float → List Float
with_part start end ys xs = take start xs ++ (ys ++ drop (end - start) (drop start xs))

-- The sets of a bank, in the order of their rates.
unfoldable pub bank_in : Mode → Float → List Float
bank_in mode top = rows (λ (i : ℕ). set_in mode (rate_of top (steps_of top) (i + 1))) (steps_of top)

abbrev pub bank_of : Float → List Float
bank_of = bank_in Ported

-- How many f32 a bank needs, 0 if its rate is out of range.
abbrev pub bank_length : Float → ℕ
bank_length top = cond (bank_ok top) (steps_of top * set_length) 0
