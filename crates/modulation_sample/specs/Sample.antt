-- M5. The parts of a step of 001's engine, operation by operation in its order: the offsets of both sides, and the
-- engine with its phases advanced. Definitions only.
use Rattle.std.specs.Prelude.{from_bits, Float}
use Rattle.std.specs.Float.{binary64}
use Rattle.std.specs.Float.Ieee.{neg, add, mul}
use Rattle.min_max.specs.Choice.{clamped}
use Rattle.smooth_random.specs.declared.Next as random
use Rattle.oscillator_ranges.specs.Constants as numbers
use Rattle.oscillator_arithmetic.specs.Arithmetic.{pow2, advance_phase, oscillator_delay}
use Rattle.modulation_params.specs.declared.ModulationParams.{ModulationParams}
use Rattle.modulation_engine.specs.declared.ModulationEngine.{ModulationEngine}
use Rattle.modulation_sample.specs.declared.StereoDelayOffset.{StereoDelayOffset}

-- 001's StereoDelayOffset::default.
abbrev pub default_offset : StereoDelayOffset
default_offset = record { left = numbers.zero; right = numbers.zero }

-- `0.5`, which is `WOW_DRIFT_TARGETS_PER_CYCLE` too.
abbrev pub half : Float
half = from_bits binary64 0x3fe0_0000_0000_0000

-- In 001: `2.0_f64.powf(0.5 * drift * value)`, where drift is `params.drift_amount.clamp(0.0, 1.0)`.
unfoldable pub multiplier_of : Float → Float → Float
multiplier_of drift-amount value =
    pow2 (mul binary64 (mul binary64 half (clamped drift-amount numbers.zero numbers.one)) value)

-- In 001: `params.stereo_amount.clamp(0.0, 1.0) * std::f64::consts::FRAC_PI_2`.
abbrev pub side_phase : ModulationParams → Float
side_phase p =
    mul binary64 (clamped p.stereo_amount numbers.zero numbers.one) (from_bits binary64 0x3ff9_21fb_5444_2d18)

-- The sum of both oscillators, each displaced by the side's phase.
unfoldable pub render_of : ModulationEngine → ModulationParams → Float → Float
render_of e p side =
    add binary64 (oscillator_delay (add binary64 e.wow_phase side) p.wow_rate_hz p.wow_depth_cents
    p.wow_shape e.sample_rate)
    (oscillator_delay (add binary64 e.flutter_phase side) p.flutter_rate_hz p.flutter_depth_cents
    p.flutter_shape e.sample_rate)

abbrev pub offset_of : ModulationEngine → ModulationParams → StereoDelayOffset
offset_of e p = record { left = render_of e p (neg (side_phase p)); right = render_of e p (side_phase p) }

-- The engine with each phase advanced by its rate times its multiplier.
abbrev pub stepped_by : random.Next → random.Next → ModulationEngine → ModulationParams → ModulationEngine
stepped_by wow flutter e p = record {
  sample_rate = e.sample_rate;
  wow_phase =
      advance_phase e.wow_phase (mul binary64 p.wow_rate_hz (multiplier_of p.drift_amount wow.value))
      e.sample_rate;
  flutter_phase =
      advance_phase e.flutter_phase
      (mul binary64 p.flutter_rate_hz (multiplier_of p.drift_amount flutter.value)) e.sample_rate;
  wow_drift = wow.random;
  flutter_drift = flutter.random;
}
