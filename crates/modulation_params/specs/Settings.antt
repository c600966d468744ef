-- G7, F9. The eight settings: 001's default values, and their ranges. Definitions only.
use Rattle.std.specs.Prelude.{Bool, ◌&&◌}
use Rattle.std.specs.Float.{binary64}
use Rattle.std.specs.Float.Ieee.{of_bits}
use Rattle.std.specs.Float.Ieee.Scale.{finite}
use Rattle.oscillator_ranges.specs.Ranges.{rate_ok, depth_ok}
use Rattle.oscillator_ranges.specs.Constants.{zero}
use Rattle.modulation_params.specs.declared.ModulationParams.{ModulationParams}

-- F9. The defaults are 0.55 Hz, 8.0 cents and 12.0 Hz; the others are 0.0.
abbrev pub default_params : ModulationParams
default_params = record {
  wow_rate_hz = of_bits binary64 0x3fe1_9999_9999_999a;
  wow_depth_cents = of_bits binary64 0x4020_0000_0000_0000;
  wow_shape = zero;
  flutter_rate_hz = of_bits binary64 0x4028_0000_0000_0000;
  flutter_depth_cents = zero;
  flutter_shape = zero;
  drift_amount = zero;
  stereo_amount = zero;
}

-- G7. All eight are finite, the rates from -1000 to 1000, the depths from -1200 to 1200. Shape, drift and stereo are
-- clamped as in 001, not refused.
unfoldable pub params_ok : ModulationParams → Bool
params_ok p =
    ((rate_ok p.wow_rate_hz && depth_ok p.wow_depth_cents)
    && (rate_ok p.flutter_rate_hz && depth_ok p.flutter_depth_cents))
    && ((finite p.wow_shape && finite p.flutter_shape)
    && (finite p.drift_amount && finite p.stereo_amount))
