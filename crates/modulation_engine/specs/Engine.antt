-- G8, M1, M2. 001's engine: opening, setting the sample rate or the seed, and reset. Definitions only.
use Rattle.std.specs.Prelude.{ℕ, zero, suc, Bool, true, ◌&&◌, cond, [], ◌∷◌, Float}
use Rattle.refusal_order.specs.Order.{◌unless◌, first_of}
use Rattle.xorshift.specs.Seeds.{flutter_seed_of}
use Rattle.smooth_random.specs.Ranges as ranges
use Rattle.smooth_random.specs.Drift as drift
use Rattle.oscillator_ranges.specs.Constants as numbers
use Rattle.oscillator_ranges.specs.Ranges.{cycle_ok, sample_rate_ok}
use Rattle.modulation_engine.specs.declared.ModulationEngine.{ModulationEngine}
use Rattle.modulation_engine.specs.declared.Opened.{Opened}
use Rattle.modulation_engine.specs.declared.Opened.TheVariants.{Engine, Refused}

-- G8. Both phases are at least 0 and below TAU, and both generators are in their ranges.
unfoldable pub phases_ok : ModulationEngine → Bool
phases_ok e = cycle_ok e.wow_phase && cycle_ok e.flutter_phase

unfoldable pub valid_engine : ModulationEngine → Bool
valid_engine e = phases_ok e && (ranges.valid_of e.wow_drift && ranges.valid_of e.flutter_drift)

-- N1, N3, N9. The number of the refusal of a state that is handed in, 0 for none: 1 for its sample rate or an argument
-- beside it, 3 for any other field.
unfoldable pub verdict : Bool → ModulationEngine → ℕ
verdict arguments e = first_of (1 unless (sample_rate_ok e.sample_rate && arguments) ∷ 3 unless valid_engine e ∷ [])

-- The engine if the refusal is 0, which stands for none.
abbrev pub opened_by : ℕ → ModulationEngine → Opened
opened_by zero e = Engine e
opened_by (suc k) e = Refused (suc k)

-- C4. The number of document 01 for each case, 0 for an engine.
abbrev pub number_of : Opened → ℕ
number_of (Engine e) = 0
number_of (Refused k) = k

-- M1. An engine that has made no step yet. The flutter generator has a seed of its own.
abbrev pub fresh : Float → ℕ → ModulationEngine
fresh sample-rate seed = record {
  sample_rate = sample-rate;
  wow_phase = numbers.zero;
  flutter_phase = numbers.zero;
  wow_drift = drift.new_of seed;
  flutter_drift = drift.new_of (flutter_seed_of seed);
}

abbrev pub opened_of : Float → ℕ → Opened
opened_of sample-rate seed = cond (sample_rate_ok sample-rate) (Engine (fresh sample-rate seed)) (Refused 1)

abbrev pub rated : ModulationEngine → Float → ModulationEngine
rated e sample-rate = record {
  sample_rate = sample-rate;
  wow_phase = e.wow_phase;
  flutter_phase = e.flutter_phase;
  wow_drift = e.wow_drift;
  flutter_drift = e.flutter_drift;
}

abbrev pub set_sample_rate_of : ModulationEngine → Float → Opened
set_sample_rate_of e sample-rate = opened_by (verdict (sample_rate_ok sample-rate) e) (rated e sample-rate)

-- M2. The same engine with another seed. Each of the two generators compares the seed with its own.
abbrev pub seeded : ModulationEngine → ℕ → ModulationEngine
seeded e seed = record {
  sample_rate = e.sample_rate;
  wow_phase = e.wow_phase;
  flutter_phase = e.flutter_phase;
  wow_drift = drift.set_seed_of e.wow_drift seed;
  flutter_drift = drift.set_seed_of e.flutter_drift (flutter_seed_of seed);
}

abbrev pub set_seed_of : ModulationEngine → ℕ → Opened
set_seed_of e seed = opened_by (verdict true e) (seeded e seed)

-- The same engine from the start again, with the same seeds.
abbrev pub restarted : ModulationEngine → ModulationEngine
restarted e = record {
  sample_rate = e.sample_rate;
  wow_phase = numbers.zero;
  flutter_phase = numbers.zero;
  wow_drift = drift.reset_of e.wow_drift;
  flutter_drift = drift.reset_of e.flutter_drift;
}

abbrev pub reset_of : ModulationEngine → Opened
reset_of e = opened_by (verdict true e) (restarted e)
