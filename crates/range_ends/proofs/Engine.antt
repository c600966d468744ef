-- G6, G8, N1, N3, N9. 001's engine and its generators: each of the 15 words of a state at the ends of its range, and 1
-- before 3. By computing. Assumes nothing.
use mathlib.Core.Path.{◌≡◌, refl}
use mathlib.Core.List.{[], ◌∷◌, map}
use Prim.Native.Nat.{◌-◌, ◌^◌}
use lib.Ieee.{nan}
use Rattle.modulation_params.specs.Settings.{default_params}
use Rattle.packed_engine.specs.Words.{params_of}
use Rattle.range_ends.specs.Floats.{f64, zero, one, rate-8000, across, from_zero, bits_about, bits_across}
use Rattle.range_ends.specs.Floats.{bits_from_zero}
use Rattle.range_ends.specs.Wander.{with, off, stepped_by, stepped, rated, seeded, restarted, drifted}

-- G8, N3. Both phases are at least 0 and below TAU.
pub phases : map (stepped 1) (bits_from_zero 0x4019_21fb_5444_2d17) ≡ 3 ∷ 0 ∷ 0 ∷ 0 ∷ 3 ∷ 3 ∷ 3 ∷ 3 ∷ []
unfolding stepped_by
phases = refl

pub flutter-phases : map (stepped 2) (bits_from_zero 0x4019_21fb_5444_2d17) ≡ 3 ∷ 0 ∷ 0 ∷ 0 ∷ 3 ∷ 3 ∷ 3 ∷ 3 ∷ []
unfolding stepped_by
flutter-phases = refl

-- G8, N3. The initial seed and the generator are not 0.
pub seeds : map (stepped 3) (0 ∷ 1 ∷ (2 ^ 64 - 1) ∷ []) ≡ 3 ∷ 0 ∷ 0 ∷ []
unfolding stepped_by
seeds = refl

pub generators : map (stepped 4) (0 ∷ 1 ∷ (2 ^ 64 - 1) ∷ []) ≡ 3 ∷ 0 ∷ 0 ∷ []
unfolding stepped_by
generators = refl

-- G8, N3. Both targets are from -1 to 1.
pub targets : map (stepped 5) (bits_about 0x3ff0_0000_0000_0000) ≡ 0 ∷ 3 ∷ 0 ∷ 3 ∷ 3 ∷ 3 ∷ 3 ∷ []
unfolding stepped_by
targets = refl

pub next-targets : map (stepped 6) (bits_about 0x3ff0_0000_0000_0000) ≡ 0 ∷ 3 ∷ 0 ∷ 3 ∷ 3 ∷ 3 ∷ 3 ∷ []
unfolding stepped_by
next-targets = refl

-- G8, N3. The position is at least 0 and below 1.
pub positions : map (stepped 7) (bits_from_zero 0x3fef_ffff_ffff_ffff) ≡ 3 ∷ 0 ∷ 0 ∷ 0 ∷ 3 ∷ 3 ∷ 3 ∷ 3 ∷ []
unfolding stepped_by
positions = refl

-- G8, N3. The segment scale is from 0.65 to 1.35, each rounded to the nearest f64.
pub scales : map (stepped 8) (bits_across 0x3fe4_cccc_cccc_cccd 0x3ff5_9999_9999_999a) ≡ 3 ∷ 0 ∷ 0 ∷ 3 ∷ 3 ∷ 3 ∷ 3 ∷ []
unfolding stepped_by
scales = refl

-- G8, N3. The flutter generator has the same ranges.
pub flutter-generator : stepped 9 0 ∷ stepped 10 0 ∷ stepped 11 0x3ff0_0000_0000_0001 ∷ stepped 12 0xbff0_0000_0000_0001
    ∷ stepped 13 0x3ff0_0000_0000_0000 ∷ stepped 14 0x3ff5_9999_9999_999b ∷ []
    ≡ 3 ∷ 3 ∷ 3 ∷ 3 ∷ 3 ∷ 3 ∷ []
unfolding stepped_by
flutter-generator = refl

-- G6, N1. The sample rate that a state keeps counts as a setting, and so does the one that is set.
pub kept-rates : map (stepped 0) (bits_across 0x40bf_4000_0000_0000 0x4127_7000_0000_0000)
    ≡ 1 ∷ 0 ∷ 0 ∷ 1 ∷ 1 ∷ 1 ∷ 1 ∷ []
unfolding stepped_by
kept-rates = refl

pub set-rates : map (rated (with 1 0)) (across 0x40bf_4000_0000_0000 0x4127_7000_0000_0000)
    ≡ 1 ∷ 0 ∷ 0 ∷ 1 ∷ 1 ∷ 1 ∷ 1 ∷ []
unfolding rated f64
set-rates = refl

-- N9. 1 comes before 3: for the sample rate that is kept, a setting of the step, and a sample rate that is set, in each
-- call.
pub order : stepped_by off default_params ∷ stepped_by (with 3 0) (params_of nan one one one one one one one)
    ∷ stepped_by (with 3 0) default_params ∷ []
    ≡ 1 ∷ 1 ∷ 3 ∷ []
unfolding stepped_by
order = refl

pub set-order : rated off rate-8000 ∷ rated (with 3 0) zero ∷ rated (with 3 0) rate-8000 ∷ seeded off
    ∷ seeded (with 3 0) ∷ restarted off ∷ restarted (with 3 0) ∷ []
    ≡ 1 ∷ 1 ∷ 3 ∷ 1 ∷ 3 ∷ 1 ∷ 3 ∷ []
unfolding rated seeded restarted f64
set-order = refl

-- G6, N1, N9. A step of SmoothRandom alone: a rate of targets from 0 to 1000, the sample rate, and 1 before 3.
pub drift-rates : map (λ r. drifted 1 r rate-8000) (from_zero 0x408f_4000_0000_0000)
    ≡ 1 ∷ 0 ∷ 0 ∷ 0 ∷ 1 ∷ 1 ∷ 1 ∷ 1 ∷ []
unfolding drifted f64
drift-rates = refl

pub drift-sample-rates : map (drifted 1 one) (across 0x40bf_4000_0000_0000 0x4127_7000_0000_0000)
    ≡ 1 ∷ 0 ∷ 0 ∷ 1 ∷ 1 ∷ 1 ∷ 1 ∷ []
unfolding drifted f64
drift-sample-rates = refl

pub drift-order : drifted 0 one nan ∷ drifted 0 nan rate-8000 ∷ drifted 0 one rate-8000 ∷ drifted 1 one rate-8000 ∷ []
    ≡ 1 ∷ 1 ∷ 3 ∷ 0 ∷ []
unfolding drifted f64
drift-order = refl
