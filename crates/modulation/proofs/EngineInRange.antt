-- G8. What holds for an engine in range: `Sound`. Opening gives it, and each method keeps it, for the phases by
-- `advance-cycle` and for the generators by the laws of Generators. Assumes nothing.
use mathlib.Core.Path.{refl}
use mathlib.Core.Bool.{◌&&◌}
use Prim.Native.Nat.{ℕ, ◌^◌, ◌<◌}
use lib.Count.{count_trailing_zeros}
use lib.Dec.{T, lit≤}
use lib.Ieee.{Float, binary64, odd, mul, lt, eq, le, of_fields, of_bits}
use lib.Ieee.Fits.{and_i}
use Rattle.magnitude.specs.Bounds.{AtMost}
use Rattle.magnitude.proofs.OrderAndBounds.{at-most-mono, at-most-le}
use Rattle.magnitude.proofs.Operations.{mul-at-most}
use Rattle.xorshift.specs.Seeds.{flutter_seed_of}
use Rattle.smooth_random.specs.Ranges.{valid_of}
use Rattle.oscillator_ranges.specs.Ranges.{cycle_ok, sample_rate_ok}
use Rattle.oscillator_arithmetic.proofs.PowerBound.{pow2-at-most}
use Rattle.oscillator_arithmetic.proofs.PhaseCycle.{huge, advance-cycle}
use Rattle.modulation_params.specs.Settings.{params_ok}
use Rattle.modulation_engine.specs.Engine.{phases_ok, valid_engine, fresh, rated, seeded, restarted}
use Rattle.modulation_sample.specs.Sample.{multiplier_of}
use Rattle.modulation.specs.Step.{wow_pace, flutter_pace, stepped_of}
use Rattle.modulation_engine.specs.declared.ModulationEngine.{ModulationEngine}
use Rattle.modulation_params.specs.declared.ModulationParams.{ModulationParams}
use Rattle.modulation.proofs.SettingsInRange.{held}
use Rattle.modulation.proofs.Generators.{Steady, new-steady, reset-steady, set-seed-steady, next-steady}
use Rattle.modulation.proofs.Generators.{flutter-word}

pub record Sound (e : ModulationEngine) : Type 0 where
  pub rate : T (sample_rate_ok e.sample_rate)
  pub wow-phase : T (cycle_ok e.wow_phase)
  pub flutter-phase : T (cycle_ok e.flutter_phase)
  pub wow : Steady e.wow_drift
  pub flutter : Steady e.flutter_drift

pub sound-valid : {e : ModulationEngine} → Sound e → T (valid_engine e)
unfolding valid_engine phases_ok
sound-valid {e} h =
    and_i (phases_ok e) (valid_of e.wow_drift && valid_of e.flutter_drift)
    (and_i (cycle_ok e.wow_phase) (cycle_ok e.flutter_phase) h.wow-phase h.flutter-phase)
    (and_i (valid_of e.wow_drift) (valid_of e.flutter_drift) h.wow.valid h.flutter.valid)

pub fresh-sound : (sample-rate : Float) (seed : ℕ) → T (sample_rate_ok sample-rate) → seed < 2 ^ 64
    → Sound (fresh sample-rate seed)
unfolding count_trailing_zeros odd lt eq le of_fields of_bits
fresh-sound sample-rate seed r w =
    record {
      rate = r;
      wow-phase = tt;
      flutter-phase = tt;
      wow = new-steady seed w;
      flutter = new-steady (flutter_seed_of seed) (flutter-word seed);
    }

pub rated-sound : {e : ModulationEngine} (sample-rate : Float) → T (sample_rate_ok sample-rate) → Sound e
    → Sound (rated e sample-rate)
rated-sound sample-rate r h =
    record { rate = r; wow-phase = h.wow-phase; flutter-phase = h.flutter-phase; wow = h.wow; flutter = h.flutter }

pub seeded-sound : {e : ModulationEngine} (seed : ℕ) → seed < 2 ^ 64 → Sound e → Sound (seeded e seed)
seeded-sound {e} seed w h = record {
  rate = h.rate;
  wow-phase = h.wow-phase;
  flutter-phase = h.flutter-phase;
  wow = set-seed-steady e.wow_drift seed w h.wow;
  flutter = set-seed-steady e.flutter_drift (flutter_seed_of seed) (flutter-word seed) h.flutter;
}

pub restarted-sound : {e : ModulationEngine} → Sound e → Sound (restarted e)
unfolding count_trailing_zeros odd lt eq le of_fields of_bits
restarted-sound {e} h =
    record {
      rate = h.rate;
      wow-phase = tt;
      flutter-phase = tt;
      wow = reset-steady e.wow_drift h.wow;
      flutter = reset-steady e.flutter_drift h.flutter;
    }

-- A rate of at most 1000 times a power of two is not huge.
slow : (rate drift-amount value : Float) → AtMost 1000 rate
    → T (le (mul binary64 rate (multiplier_of drift-amount value)) huge)
unfolding multiplier_of count_trailing_zeros odd of_fields of_bits
slow rate drift-amount value h =
    let x = mul binary64 rate (multiplier_of drift-amount value) in
    at-most-le (2 ^ 25) x huge (refl, refl) (at-most-mono x (lit≤ tt)
    (mul-at-most binary64 1000 (2 ^ 15) rate (multiplier_of drift-amount value) (lit≤ tt) h (pow2-at-most _)))

pub stepped-sound : {e : ModulationEngine} (p : ModulationParams) → T (params_ok p) → Sound e → Sound (stepped_of e p)
stepped-sound {e} p ok h =
    let k = held p ok in
    record {
      rate = h.rate;
      wow-phase = advance-cycle _ _ _ h.wow-phase (slow _ _ _ k.wow-rate) h.rate;
      flutter-phase = advance-cycle _ _ _ h.flutter-phase (slow _ _ _ k.flutter-rate) h.rate;
      wow = next-steady e.wow_drift (wow_pace p) e.sample_rate h.wow;
      flutter = next-steady e.flutter_drift (flutter_pace p) e.sample_rate h.flutter;
    }
