-- The rates at which drift targets come are in the range of a generator's argument, because each is clamped between
-- ends that are. So a generator refuses only if its state is out of range. Assumes nothing.
use mathlib.Core.Path.{◌≡◌, refl}
use mathlib.Core.Bool.{Bool, true, false, not, cond}
use lib.Count.{count_trailing_zeros}
use lib.Dec.{T, T_not, eqb, lit≤}
use lib.Ieee.{Float, binary64, odd, mul, lt, eq, le, of_fields, of_bits}
use lib.Ieee.Bits.{is_true}
use lib.Ieee.Fits.{and_i}
use lib.Ieee.Scale.{finite}
use Rattle.magnitude.proofs.Comparisons.{lt→le, finite_number}
use Rattle.magnitude.proofs.OrderAndBounds.{at-most-finite}
use Rattle.magnitude.proofs.Operations.{mul-at-most}
use Rattle.interval.proofs.Signed.{nle→lt, le-lt}
use Rattle.interval.proofs.Between.{Between, between}
use Rattle.min_max.specs.Choice.{clamped}
use Rattle.min_max.proofs.Clamps.{clamped-ge, clamped-le}
use Rattle.smooth_random.specs.Ranges.{within, arguments_of, valid_of, verdict}
use Rattle.smooth_random.specs.Drift.{answer, next_of}
use Rattle.smooth_random.specs.declared.SmoothRandom.{SmoothRandom}
use Rattle.oscillator_ranges.specs.Constants.{zero}
use Rattle.oscillator_ranges.specs.Ranges.{fastest}
use Rattle.modulation_sample.specs.Sample.{half}
use Rattle.modulation.specs.Step.{tenth, wow_pace, flutter_pace}
use Rattle.modulation_params.specs.declared.ModulationParams.{ModulationParams}
use Rattle.modulation.proofs.SettingsInRange.{Held}

-- The ends satisfy 0 ≤ low ≤ high < 1000.
clamped-paces : (x low high : Float) → T (finite x) → T (finite low) → T (finite high) → T (le low high)
    → T (not (lt low zero)) → T (lt high fastest) → T (within zero fastest (clamped x low high))
unfolding count_trailing_zeros odd of_fields of_bits
clamped-paces x low high n p q r s t =
    let c = clamped x low high in
    let b : Between low high c =
    between p q (clamped-ge x low high (finite_number x n) r) (clamped-le x low high (finite_number x n) r) in
    let real = b.above.second in
    let under : T (lt c zero) → ⊥ = λ l. T_not (lt low zero) s (le-lt low c zero p real tt b.above.order l) in
    and_i (le zero c) (le c fastest) (not-not (le zero c) (λ l. under (nle→lt c zero real tt l)))
    (lt→le c fastest (le-lt c high fastest real q tt b.below.order t))
  where
    not-not : (a : Bool) → (T (not a) → ⊥) → T a
    not-not true f = tt
    not-not false f = absurd (f tt)

module _ (p : ModulationParams) (h : Held p) where
  pub wow-paces : T (within zero fastest (wow_pace p))
  unfolding count_trailing_zeros odd lt eq le of_fields of_bits
  wow-paces =
      let x = mul binary64 p.wow_rate_hz half in
      clamped-paces x _ _
      (at-most-finite 1000 x (mul-at-most binary64 1000 1 p.wow_rate_hz half (lit≤ tt) h.wow-rate
      (lit≤ tt))) tt tt tt tt tt

  pub flutter-paces : T (within zero fastest (flutter_pace p))
  unfolding count_trailing_zeros odd lt eq le of_fields of_bits
  flutter-paces =
      let x = mul binary64 p.flutter_rate_hz tenth in
      clamped-paces x _ _
      (at-most-finite 1000 x (mul-at-most binary64 1000 1 p.flutter_rate_hz tenth (lit≤ tt) h.flutter-rate
      (lit≤ tt))) tt tt tt tt tt

pub refuses-a-state-alone : (r : SmoothRandom) (pace sample-rate : Float) → T (arguments_of pace sample-rate)
    → eqb (next_of r pace sample-rate).refusal 0 ≡ valid_of r
unfolding verdict
refuses-a-state-alone r pace sample-rate ok = rw (is_true (arguments_of pace sample-rate) ok) (go (valid_of r))
  where
    go : (b : Bool) → eqb (answer (cond b 0 3) r pace sample-rate).refusal 0 ≡ b
    go true = refl
    go false = refl
