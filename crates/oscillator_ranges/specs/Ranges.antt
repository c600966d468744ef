-- G4, G6, G7, G8. The ranges of document 01 for the arguments of 001's oscillators. Definitions only.
use Rattle.std.specs.Prelude.{Bool, ◌&&◌, from_bits, Float}
use Rattle.std.specs.Float.{binary64}
use Rattle.std.specs.Float.Ieee.{neg, lt, le}
use Rattle.oscillator_ranges.specs.Constants.{tau, zero, slowest, octave}

abbrev pub within : Float → Float → Float → Bool
within low high x = le low x && le x high

-- `1000.0`, the fastest rate.
abbrev pub fastest : Float
fastest = from_bits binary64 0x408f_4000_0000_0000

-- G7. A rate in Hz lies from -1000 to 1000.
abbrev pub rate_ok : Float → Bool
rate_ok = within (neg fastest) fastest

-- G7. A depth in cents lies from -1200 to 1200.
abbrev pub depth_ok : Float → Bool
depth_ok = within (neg octave) octave

-- G4. The phase given to shape_primitive lies from -51 to 51.
abbrev pub phase_ok : Float → Bool
phase_ok = within (neg (from_bits binary64 0x4049_8000_0000_0000)) (from_bits binary64 0x4049_8000_0000_0000)

-- G8. The phase that an engine keeps is at least 0 and below TAU.
abbrev pub cycle_ok : Float → Bool
cycle_ok x = le zero x && lt x tau

-- G6. A sample rate lies from 8000 to 768000.
abbrev pub sample_rate_ok : Float → Bool
sample_rate_ok = within (from_bits binary64 0x40bf_4000_0000_0000) (from_bits binary64 0x4127_7000_0000_0000)

-- G7. The minimum rate of maximum_delay_excursion_samples lies from 0.001 to 1000.
abbrev pub minimum_rate_ok : Float → Bool
minimum_rate_ok = within slowest fastest
