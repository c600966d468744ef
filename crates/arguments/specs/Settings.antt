-- The settings of 001 with one of them changed. Definitions only.
use Rattle.std.specs.Prelude.{ℕ, cond, eqb, Float}
use Rattle.modulation_params.specs.declared.ModulationParams.{ModulationParams}
use Rattle.arguments.specs.declared.Setting.{Setting}
use Rattle.arguments.specs.declared.Setting.TheVariants.{WowRateHz, WowDepthCents, WowShape}
use Rattle.arguments.specs.declared.Setting.TheVariants.{FlutterRateHz, FlutterDepthCents, FlutterShape}
use Rattle.arguments.specs.declared.Setting.TheVariants.{DriftAmount, StereoAmount}

-- The place of a setting among the eight of 001, from 0.
abbrev pub place_of : Setting → ℕ
place_of WowRateHz = 0
place_of WowDepthCents = 1
place_of WowShape = 2
place_of FlutterRateHz = 3
place_of FlutterDepthCents = 4
place_of FlutterShape = 5
place_of DriftAmount = 6
place_of StereoAmount = 7

-- x at the setting's own place, and the old value at any other.
abbrev pub new_at : Setting → Float → ℕ → Float → Float
new_at s x k old = cond (eqb (place_of s) k) x old

abbrev pub changed_to : ModulationParams → Setting → Float → ModulationParams
changed_to p s x = record {
  wow_rate_hz = new_at s x 0 p.wow_rate_hz;
  wow_depth_cents = new_at s x 1 p.wow_depth_cents;
  wow_shape = new_at s x 2 p.wow_shape;
  flutter_rate_hz = new_at s x 3 p.flutter_rate_hz;
  flutter_depth_cents = new_at s x 4 p.flutter_depth_cents;
  flutter_shape = new_at s x 5 p.flutter_shape;
  drift_amount = new_at s x 6 p.drift_amount;
  stereo_amount = new_at s x 7 p.stereo_amount;
}
