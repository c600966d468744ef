-- A run of calls of one engine. The state is handed on as the last call left it. Definitions only.
use Rattle.std.specs.Prelude.{ℕ, ◌^◌, ◌<◌, cond, List, [], ◌∷◌, ◌++◌, Float}
use Rattle.oscillator_ranges.specs.Ranges.{sample_rate_ok}
use Rattle.modulation_engine.specs.Engine.{set_sample_rate_of, set_seed_of, reset_of}
use Rattle.modulation.specs.Step.{next_of}
use Rattle.modulation_engine.specs.declared.ModulationEngine.{ModulationEngine}
use Rattle.modulation_params.specs.declared.ModulationParams.{ModulationParams}
use Rattle.modulation_engine.specs.declared.Opened.{Opened}
use Rattle.modulation_engine.specs.declared.Opened.TheVariants.{Engine, Refused}
use Rattle.modulation_sample.specs.declared.Offset.{Offset}

-- The calls are `next`, `set_sample_rate`, `set_seed` and `reset`.
pub data Call : Type 0 where
  step : ModulationParams → Call
  rate : Float → Call
  seed : ℕ → Call
  again : Call

-- The engine that an answer leaves behind: a refusal changes nothing.
abbrev pub left_by : Opened → ModulationEngine → ModulationEngine
left_by (Engine after) e = after
left_by (Refused k) e = e

abbrev pub after : ModulationEngine → Call → ModulationEngine
after e (step p) = (next_of e p).engine
after e (rate sample-rate) = left_by (set_sample_rate_of e sample-rate) e
after e (seed s) = left_by (set_seed_of e s) e
after e again = left_by (reset_of e) e

-- The offsets that a call hands out.
abbrev pub handed : ModulationEngine → Call → List Offset
handed e (step p) = (next_of e p).offset ∷ []
handed e (rate sample-rate) = []
handed e (seed s) = []
handed e again = []

unfoldable pub run : ModulationEngine → List Call → ModulationEngine
run e [] = e
run e (c ∷ cs) = run (after e c) cs

unfoldable pub offsets : ModulationEngine → List Call → List Offset
offsets e [] = []
offsets e (c ∷ cs) = handed e c ++ offsets (after e c) cs

-- The sample rate that was set last. One that is out of range is refused and changes nothing.
abbrev pub rate_after : Float → Call → Float
rate_after r (step p) = r
rate_after r (rate sample-rate) = cond (sample_rate_ok sample-rate) sample-rate r
rate_after r (seed s) = r
rate_after r again = r

unfoldable pub last_rate : Float → List Call → Float
last_rate r [] = r
last_rate r (c ∷ cs) = last_rate (rate_after r c) cs

-- The seed that was set last.
abbrev pub seed_after : ℕ → Call → ℕ
seed_after s (step p) = s
seed_after s (rate sample-rate) = s
seed_after s (seed t) = t
seed_after s again = s

unfoldable pub last_seed : ℕ → List Call → ℕ
last_seed s [] = s
last_seed s (c ∷ cs) = last_seed (seed_after s c) cs

-- A seed is a word of 64 digits, as a u64 is.
abbrev pub Word : Call → Type 0
Word (step p) = Unit {0}
Word (rate sample-rate) = Unit {0}
Word (seed s) = s < 2 ^ 64
Word again = Unit {0}

unfoldable pub Words : List Call → Type 0
Words [] = Unit {0}
Words (c ∷ cs) = Word c × Words cs
