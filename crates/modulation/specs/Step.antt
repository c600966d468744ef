-- M5. One step of 001's engine, operation by operation in its order. Definitions only.
use Rattle.std.specs.Prelude.{ℕ, zero, suc, Float}
use Rattle.std.specs.Float.{binary64}
use Rattle.std.specs.Float.Ieee.{of_bits, mul}
use Rattle.min_max.specs.Choice.{clamped}
use Rattle.smooth_random.specs.Drift as drift
use Rattle.smooth_random.specs.declared.Next as random
use Rattle.modulation_params.specs.Settings.{params_ok}
use Rattle.modulation_params.specs.declared.ModulationParams.{ModulationParams}
use Rattle.modulation_engine.specs.Engine.{verdict}
use Rattle.modulation_engine.specs.declared.ModulationEngine.{ModulationEngine}
use Rattle.modulation_sample.specs.Sample.{half, offset_of, stepped_by}
use Rattle.modulation_sample.specs.declared.Offset.{Offset}
use Rattle.modulation_sample.specs.declared.Offset.TheVariants.{Delay, Refused}
use Rattle.modulation_sample.specs.declared.Next.{Next}

-- `FLUTTER_DRIFT_TARGETS_PER_CYCLE`, 0.1.
abbrev pub tenth : Float
tenth = of_bits binary64 0x3fb9_9999_9999_999a

-- In 001: `(params.wow_rate_hz * WOW_DRIFT_TARGETS_PER_CYCLE).clamp(0.025, 2.0)`.
abbrev pub wow_pace : ModulationParams → Float
wow_pace p =
    clamped (mul binary64 p.wow_rate_hz half) (of_bits binary64 0x3f99_9999_9999_999a)
    (of_bits binary64 0x4000_0000_0000_0000)

-- In 001: `(params.flutter_rate_hz * FLUTTER_DRIFT_TARGETS_PER_CYCLE).clamp(0.5, 3.0)`.
abbrev pub flutter_pace : ModulationParams → Float
flutter_pace p = clamped (mul binary64 p.flutter_rate_hz tenth) half (of_bits binary64 0x4008_0000_0000_0000)

-- The values of both drifts, each with its generator after the draw.
abbrev pub wow_drift : ModulationEngine → ModulationParams → random.Next
wow_drift e p = drift.next_of e.wow_drift (wow_pace p) e.sample_rate

abbrev pub flutter_drift : ModulationEngine → ModulationParams → random.Next
flutter_drift e p = drift.next_of e.flutter_drift (flutter_pace p) e.sample_rate

abbrev pub stepped_of : ModulationEngine → ModulationParams → ModulationEngine
stepped_of e p = stepped_by (wow_drift e p) (flutter_drift e p) e p

-- The offsets of this sample, and the engine after it. A refusal leaves the engine as it was.
abbrev pub next_by : ℕ → ModulationEngine → ModulationParams → Next
next_by zero e p = record { engine = stepped_of e p; offset = Delay (offset_of e p) }
next_by (suc k) e p = record { engine = e; offset = Refused (suc k) }

abbrev pub next_of : ModulationEngine → ModulationParams → Next
next_of e p = next_by (verdict (params_ok p) e) e p

-- C4. The number of document 01 for each case, 0 for the offsets.
abbrev pub number_of : Offset → ℕ
number_of (Delay d) = 0
number_of (Refused k) = k
