-- In a sound engine with settings in range no cosine and no power of two of a step is refused, so that `cos` and `pow2`
-- in its definition are the port's own functions, with their bounds: phases from -TAU/4 to 5 TAU/4, depths of at most
-- an octave, drifts of at most 1. Assumes nothing.
use mathlib.Core.Path.{◌≡◌, ap, ◌∙◌}
use Prim.Native.Nat.{ℕ, zero, suc}
use lib.Count.{count_trailing_zeros}
use lib.Dec.{T, lit≤}
use lib.Ieee.{Float, binary64, size, span, climb, odd, units, round, neg, sum, add, sub, mul, div, lt, eq, le}
use lib.Ieee.{of_fields}
use lib.Ieee.{of_bits}
use lib.Ieee.Bits.{is_true}
use lib.Ieee.Fits.{and_i, and_l, and_r}
use lib.Ieee.Scale.{finite}
use Rattle.magnitude.specs.Bounds.{AtMost}
use Rattle.magnitude.proofs.Comparisons.{lt→le, finite_number}
use Rattle.magnitude.proofs.OrderAndBounds.{between-at-most}
use Rattle.interval.proofs.Between.{Between, between}
use Rattle.min_max.specs.Choice.{larger, clamped}
use Rattle.min_max.proofs.Clamps.{clamped-ge, clamped-le}
use Rattle.elementary.specs.Answers.{power_at}
use Rattle.smooth_random.specs.Ranges as ranges
use Rattle.smooth_random.specs.Ranges.{within, arguments_of, valid_of}
use Rattle.smooth_random.specs.Drift as drift
use Rattle.smooth_random.specs.declared.SmoothRandom.{SmoothRandom}
use Rattle.oscillator_ranges.specs.Constants as numbers
use Rattle.oscillator_ranges.specs.Constants.{tau, one, octave}
use Rattle.oscillator_ranges.specs.Ranges.{cycle_ok, sample_rate_ok, fastest}
use Rattle.oscillator_arithmetic.specs.Arithmetic.{speed_delta}
use Rattle.oscillator_arithmetic.proofs.NothingRefused.{Cosines, cosines-answer, power-answers, larger-at-most}
use Rattle.oscillator_arithmetic.proofs.NothingRefused.{delta-answers}
use Rattle.modulation_params.specs.Settings.{params_ok}
use Rattle.modulation_sample.specs.Sample.{half, multiplier_of, side_phase}
use Rattle.modulation.specs.Step.{wow_pace, flutter_pace, wow_drift, flutter_drift}
use Rattle.modulation_engine.specs.declared.ModulationEngine.{ModulationEngine}
use Rattle.modulation_params.specs.declared.ModulationParams.{ModulationParams}
use Rattle.modulation.proofs.SettingsInRange.{held}
use Rattle.modulation.proofs.PacesInRange.{wow-paces, flutter-paces}
use Rattle.modulation.proofs.TermBounds.{Term, var, num, plus, minus, times, value, Ends, ends, sure, lies}
use Rattle.modulation.proofs.TermBounds.{lies-between}
use Rattle.modulation.proofs.DriftExponent.{wander-at-most}
use Rattle.modulation.proofs.EngineInRange.{Sound}

-- ---- a phase, and the displacement of a side
abbrev far : Float
far = of_bits binary64 0x4049_8000_0000_0000

abbrev side : Term
side = times (var 0) (num (of_bits binary64 0x3ff9_21fb_5444_2d18))

abbrev turn : ℕ → Ends
turn zero = record { low = numbers.zero; high = one }
turn (suc i) = record { low = numbers.zero; high = tau }

abbrev at : Float → Float → ℕ → Float
at amount phase zero = amount
at amount phase (suc i) = phase

module _ (amount phase : Float) (real : T (finite amount)) (cycle : T (cycle_ok phase)) where
  abbrev displaced : Float
  displaced = clamped amount numbers.zero one

  inside : (i : ℕ) → Between (turn i).low (turn i).high (at displaced phase i)
  unfolding count_trailing_zeros odd lt eq le of_fields of_bits
  inside zero =
      let number = finite_number amount real in
      between tt tt (clamped-ge amount numbers.zero one number tt) (clamped-le amount numbers.zero one number tt)
  inside (suc i) =
      between tt tt (and_l (le numbers.zero phase) (lt phase tau) cycle)
      (lt→le phase tau (and_r (le numbers.zero phase) (lt phase tau) cycle))

  near : (e : Term) → T (lies turn e (neg far) far) → AtMost 51 (value (at displaced phase) e)
  unfolding count_trailing_zeros odd neg of_fields of_bits
  near e t =
      let b = lies-between turn (at displaced phase) inside e t in
      between-at-most 51 (neg far) (value (at displaced phase) e) far (lit≤ tt) (lit≤ tt) b.above.order
      b.below.order

  right : Cosines (add binary64 phase (value (at displaced phase) side))
  unfolding lies sure ends count_trailing_zeros size span climb odd units round neg sum add mul lt eq le of_fields
      of_bits
  right = cosines-answer _ (near (plus (var 1) side) tt)

  left : Cosines (add binary64 phase (neg (value (at displaced phase) side)))
  unfolding lies sure ends count_trailing_zeros size span climb odd units round neg sum add sub mul lt eq le
      of_fields of_bits
  left = cosines-answer _ (near (minus (var 1) side) tt)

-- ---- a drift
drawn : (r : SmoothRandom) (pace sample-rate : Float) → T (arguments_of pace sample-rate) → T (valid_of r)
    → (drift.next_of r pace sample-rate).value ≡ drift.value_at r
unfolding ranges.verdict
drawn r pace sample-rate ok valid = rw (is_true (arguments_of pace sample-rate) ok, is_true (valid_of r) valid)

abbrev wander : Float → SmoothRandom → Float
wander amount r = mul binary64 (mul binary64 half (clamped amount numbers.zero one)) (drift.value_at r)

wanders : (amount : Float) (r : SmoothRandom) (pace sample-rate : Float) → T (finite amount)
    → T (arguments_of pace sample-rate) → T (valid_of r)
    → multiplier_of amount (drift.next_of r pace sample-rate).value ≡ power_at (wander amount r)
unfolding multiplier_of
wanders amount r pace sample-rate real ok valid =
    ap (multiplier_of amount) (drawn r pace sample-rate ok valid)
    ∙ power-answers (wander amount r) (wander-at-most r amount valid real)

-- ---- all cosines and powers of a step
pub record Answered (e : ModulationEngine) (p : ModulationParams) : Type 0 where
  pub wow-left : Cosines (add binary64 e.wow_phase (neg (side_phase p)))
  pub wow-right : Cosines (add binary64 e.wow_phase (side_phase p))
  pub flutter-left : Cosines (add binary64 e.flutter_phase (neg (side_phase p)))
  pub flutter-right : Cosines (add binary64 e.flutter_phase (side_phase p))
  pub wow-depth : let d = larger p.wow_depth_cents numbers.zero in
      speed_delta d ≡ sub binary64 (power_at (div binary64 d octave)) one
  pub flutter-depth : let d = larger p.flutter_depth_cents numbers.zero in
      speed_delta d ≡ sub binary64 (power_at (div binary64 d octave)) one
  pub wow-drift : multiplier_of p.drift_amount (wow_drift e p).value
      ≡ power_at (wander p.drift_amount e.wow_drift)
  pub flutter-drift : multiplier_of p.drift_amount (flutter_drift e p).value
      ≡ power_at (wander p.drift_amount e.flutter_drift)

pub answered : {e : ModulationEngine} (p : ModulationParams) → Sound e → T (params_ok p) → Answered e p
answered {e} p h ok =
    let k = held p ok in
    let r = e.sample_rate in
    record {
      wow-left = left p.stereo_amount e.wow_phase k.stereo h.wow-phase;
      wow-right = right p.stereo_amount e.wow_phase k.stereo h.wow-phase;
      flutter-left = left p.stereo_amount e.flutter_phase k.stereo h.flutter-phase;
      flutter-right = right p.stereo_amount e.flutter_phase k.stereo h.flutter-phase;
      wow-depth =
          delta-answers (larger p.wow_depth_cents numbers.zero)
          (larger-at-most 1200 p.wow_depth_cents k.wow-depth);
      flutter-depth =
          delta-answers (larger p.flutter_depth_cents numbers.zero)
          (larger-at-most 1200 p.flutter_depth_cents k.flutter-depth);
      wow-drift =
          wanders p.drift_amount e.wow_drift (wow_pace p) r k.drift
          (and_i (within numbers.zero fastest (wow_pace p)) (sample_rate_ok r) (wow-paces p k) h.rate) h.wow.valid;
      flutter-drift =
          wanders p.drift_amount e.flutter_drift (flutter_pace p) r k.drift
          (and_i (within numbers.zero fastest (flutter_pace p)) (sample_rate_ok r) (flutter-paces p k) h.rate)
          h.flutter.valid;
    }
