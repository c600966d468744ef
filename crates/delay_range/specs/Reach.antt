-- Which delays suit the settings of the wandering. Definitions only.
use Rattle.std.specs.Prelude.{Bool, ◌&&◌, Float, Result, Ok, Err}
use Rattle.refusal.specs.declared.Refusal.{Refusal}
use Rattle.std.specs.Float.{binary64}
use Rattle.std.specs.Float.Ieee.{add, sub, le, of_bits}
use Rattle.min_max.specs.Choice.{larger}
use Rattle.modulation_params.specs.declared.ModulationParams.{ModulationParams}
use Rattle.oscillators.specs.Answers.{excursion_of}

-- The numbers 0.001, 16, 65512 and 65536.
abbrev pub slowest : Float
slowest = of_bits binary64 0x3f50_624d_d2f1_a9fc

abbrev pub taps : Float
taps = of_bits binary64 0x4030_0000_0000_0000

abbrev pub longest : Float
longest = of_bits binary64 0x40ef_fd00_0000_0000

abbrev pub ring : Float
ring = of_bits binary64 0x40f0_0000_0000_0000

abbrev pub value_or : Float → Result Float Refusal → Float
value_or d (Ok x) = x
value_or d (Err r) = d

-- 001's bound for the distance of one oscillator's delay from its middle.
unfoldable pub excursion_in : Float → Float → Float → Float
excursion_in depth frequency rate =
    value_or ring (excursion_of (larger depth (of_bits binary64 0)) (larger frequency slowest) rate)

unfoldable pub reach_of : ModulationParams → Float → Float
reach_of p rate =
    add binary64 (excursion_in p.wow_depth_cents p.wow_rate_hz rate)
    (excursion_in p.flutter_depth_cents p.flutter_rate_hz rate)

-- The delay suits if reach + 16 ≤ delay ≤ 65512 - reach.
unfoldable pub suits_of : Float → Float → Bool
suits_of delay reach = le (add binary64 reach taps) delay && le delay (sub binary64 longest reach)
