-- X2. The beginning of a rendering. Definitions only.
use Rattle.std.specs.Prelude.{ℕ, Bool, true, false, ◌&&◌, cond, List, eqb, pos, length, Float}
use Rattle.std.specs.Float.{fin}
use Rattle.ring.specs.Length.{zeros}
use Rattle.sinc_settings.specs.declared.Settings.{Settings}
use Rattle.windowed_sinc_f32.specs.Table.{table_f32_of}
use Rattle.modulation_engine.specs.Engine as engine
use Rattle.variable_delay.specs.Opening as delay
use Rattle.render_samples.specs.declared.Rendering.{Rendering}
use Rattle.render_start.specs.declared.Opened.{Opened}
use Rattle.render_start.specs.declared.Opened.TheVariants.{Started, Refused}

-- The table has 32 taps, 64 phases, the cutoff 1 and beta 12.
abbrev pub settings : Settings
settings = record { taps = 32; phases = 64; cutoff = fin false 1 (pos 0); beta = fin false 3 (pos 2) }

-- Nothing is accepted yet, and the engine has the seed 1 and 48000 Hz. G1: the maximum delay 1016 and the margin 0 need
-- a ring of 1024.
abbrev pub fresh : Rendering
fresh = record { reader = delay.fresh 1016 0; engine = engine.fresh (fin false 375 (pos 7)) 1 }

-- N2. The ring has 1024 places, and the table 65 rows of 32. A refusal leaves both as they were (D1c).
abbrev pub lengths_ok : ℕ → ℕ → Bool
lengths_ok ring table = eqb ring 1024 && eqb table 2080

abbrev pub pick_opened : Bool → Opened
pick_opened true = Started fresh
pick_opened false = Refused 2

abbrev pub opened_of : ℕ → ℕ → Opened
opened_of ring table = pick_opened (lengths_ok ring table)

abbrev pub ring_opened : List Float → ℕ → List Float
ring_opened xs table = cond (lengths_ok (length xs) table) (zeros 1024) xs

abbrev pub table_opened : ℕ → List Float → List Float
table_opened ring xs = cond (lengths_ok ring (length xs)) (table_f32_of settings) xs

-- C4. 01's number for each case, 0 for a beginning.
abbrev pub number_of : Opened → ℕ
number_of (Started s) = 0
number_of (Refused k) = k
