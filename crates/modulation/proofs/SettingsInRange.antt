-- G7. What settings in range satisfy, one by one. Assumes nothing.
use mathlib.Core.Bool.{◌&&◌}
use lib.Dec.{T}
use lib.Ieee.Fits.{and_l, and_r}
use lib.Ieee.Bits.{is_true}
use lib.Ieee.Scale.{finite}
use Rattle.magnitude.specs.Bounds.{AtMost}
use Rattle.oscillator_ranges.specs.Ranges.{rate_ok, depth_ok}
use Rattle.oscillator_arithmetic.proofs.NothingRefused.{rate-at-most, depth-at-most}
use Rattle.modulation_params.specs.Settings.{params_ok}
use Rattle.modulation_params.specs.declared.ModulationParams.{ModulationParams}

pub record Held (p : ModulationParams) : Type 0 where
  pub wow-rate : AtMost 1000 p.wow_rate_hz
  pub wow-depth : AtMost 1200 p.wow_depth_cents
  pub flutter-rate : AtMost 1000 p.flutter_rate_hz
  pub flutter-depth : AtMost 1200 p.flutter_depth_cents
  pub wow-shape : T (finite p.wow_shape)
  pub flutter-shape : T (finite p.flutter_shape)
  pub drift : T (finite p.drift_amount)
  pub stereo : T (finite p.stereo_amount)

pub held : (p : ModulationParams) → T (params_ok p) → Held p
unfolding params_ok
held p h =
    let wow = rate_ok p.wow_rate_hz && depth_ok p.wow_depth_cents in
    let flutter = rate_ok p.flutter_rate_hz && depth_ok p.flutter_depth_cents in
    let shapes = finite p.wow_shape && finite p.flutter_shape in
    let amounts = finite p.drift_amount && finite p.stereo_amount in
    let swings = and_l (wow && flutter) (shapes && amounts) h in
    let rest = and_r (wow && flutter) (shapes && amounts) h in
    let w = and_l wow flutter swings in
    let f = and_r wow flutter swings in
    let s = and_l shapes amounts rest in
    let a = and_r shapes amounts rest in
    record {
      wow-rate =
          rate-at-most p.wow_rate_hz
          (is_true (rate_ok p.wow_rate_hz) (and_l (rate_ok p.wow_rate_hz) (depth_ok p.wow_depth_cents) w));
      wow-depth =
          depth-at-most p.wow_depth_cents
          (is_true (depth_ok p.wow_depth_cents)
          (and_r (rate_ok p.wow_rate_hz) (depth_ok p.wow_depth_cents) w));
      flutter-rate =
          rate-at-most p.flutter_rate_hz (is_true (rate_ok p.flutter_rate_hz)
          (and_l (rate_ok p.flutter_rate_hz) (depth_ok p.flutter_depth_cents) f));
      flutter-depth =
          depth-at-most p.flutter_depth_cents
          (is_true (depth_ok p.flutter_depth_cents)
          (and_r (rate_ok p.flutter_rate_hz) (depth_ok p.flutter_depth_cents) f));
      wow-shape = and_l (finite p.wow_shape) (finite p.flutter_shape) s;
      flutter-shape = and_r (finite p.wow_shape) (finite p.flutter_shape) s;
      drift = and_l (finite p.drift_amount) (finite p.stereo_amount) a;
      stereo = and_r (finite p.drift_amount) (finite p.stereo_amount) a;
    }
