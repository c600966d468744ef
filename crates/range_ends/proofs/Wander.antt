-- G4, G6, G7, N1. 001's functions and settings at the ends of their ranges, by computing. Assumes nothing.
use mathlib.Core.Path.{◌≡◌, refl}
use mathlib.Core.Bool.{false, true}
use mathlib.Core.List.{[], ◌∷◌, map}
use lib.Ieee.{neg, lt, le}
use Rattle.elementary.specs.Answers.{refusal_of}
use Rattle.oscillators.specs.Answers.{answered_by, depths_ok, speed_delta_of, advance_phase_of}
use Rattle.oscillators.specs.Answers.{shape_primitive_of, oscillator_delay_of, excursion_of, rate_delta_of}
use Rattle.modulation_params.specs.Settings.{params_ok}
use Rattle.modulation_engine.specs.Engine.{number_of, opened_of}
use Rattle.packed_engine.specs.Words.{params_of}
use Rattle.range_ends.specs.Floats.{f64, zero, one, rate-8000, about, across, from_zero, finite_ends}

-- G4. The phase given to shape_primitive is from -51 to 51; its shape is clamped, so that any finite one is accepted.
-- The same holds for an oscillator's delay.
pub phases : map (λ p. refusal_of (shape_primitive_of p one)) (about 0x4049_8000_0000_0000)
    ≡ 0 ∷ 1 ∷ 0 ∷ 1 ∷ 1 ∷ 1 ∷ 1 ∷ []
unfolding answered_by le neg f64
phases = refl

pub shapes : map (λ s. refusal_of (shape_primitive_of one s)) finite_ends ≡ 0 ∷ 0 ∷ 1 ∷ 1 ∷ 1 ∷ []
unfolding answered_by le neg f64
shapes = refl

pub oscillator-phases : map (λ p. refusal_of (oscillator_delay_of p one one one rate-8000))
    (about 0x4049_8000_0000_0000)
    ≡ 0 ∷ 1 ∷ 0 ∷ 1 ∷ 1 ∷ 1 ∷ 1 ∷ []
unfolding answered_by le neg f64
oscillator-phases = refl

-- G7. Depths are from -1200 to 1200, also each of a list.
pub depths : map (λ d. refusal_of (speed_delta_of d)) (about 0x4092_c000_0000_0000) ≡ 0 ∷ 1 ∷ 0 ∷ 1 ∷ 1 ∷ 1 ∷ 1 ∷ []
unfolding answered_by le neg f64
depths = refl

pub listed-depths : map (λ d. refusal_of (rate_delta_of (one ∷ d ∷ []))) (about 0x4092_c000_0000_0000)
    ≡ 0 ∷ 1 ∷ 0 ∷ 1 ∷ 1 ∷ 1 ∷ 1 ∷ []
unfolding answered_by depths_ok le neg f64
listed-depths = refl

pub excursion-depths : map (λ d. refusal_of (excursion_of d one rate-8000)) (about 0x4092_c000_0000_0000)
    ≡ 0 ∷ 1 ∷ 0 ∷ 1 ∷ 1 ∷ 1 ∷ 1 ∷ []
unfolding answered_by le neg f64
excursion-depths = refl

-- G7. Rates are from -1000 to 1000, and the minimum rate of maximum_delay_excursion_samples from 0.001 to 1000.
pub rates : map (λ r. refusal_of (advance_phase_of zero r rate-8000)) (about 0x408f_4000_0000_0000)
    ≡ 0 ∷ 1 ∷ 0 ∷ 1 ∷ 1 ∷ 1 ∷ 1 ∷ []
unfolding answered_by le lt neg f64
rates = refl

pub oscillator-rates : map (λ r. refusal_of (oscillator_delay_of one r one one rate-8000)) (about 0x408f_4000_0000_0000)
    ≡ 0 ∷ 1 ∷ 0 ∷ 1 ∷ 1 ∷ 1 ∷ 1 ∷ []
unfolding answered_by le neg f64
oscillator-rates = refl

pub minimum-rates : map (λ r. refusal_of (excursion_of one r rate-8000))
    (across 0x3f50_624d_d2f1_a9fc 0x408f_4000_0000_0000)
    ≡ 1 ∷ 0 ∷ 0 ∷ 1 ∷ 1 ∷ 1 ∷ 1 ∷ []
unfolding answered_by le neg f64
minimum-rates = refl

-- G6. The sample rate is from 8000 to 768000, for a function and for an engine that is opened.
pub sample-rates : map (λ r. refusal_of (advance_phase_of zero one r))
    (across 0x40bf_4000_0000_0000 0x4127_7000_0000_0000)
    ≡ 1 ∷ 0 ∷ 0 ∷ 1 ∷ 1 ∷ 1 ∷ 1 ∷ []
unfolding answered_by le lt neg f64
sample-rates = refl

pub opened-rates : map (λ r. number_of (opened_of r 1)) (across 0x40bf_4000_0000_0000 0x4127_7000_0000_0000)
    ≡ 1 ∷ 0 ∷ 0 ∷ 1 ∷ 1 ∷ 1 ∷ 1 ∷ []
unfolding le f64
opened-rates = refl

-- G8. A phase that is kept is at least 0 and below TAU.
pub cycles : map (λ p. refusal_of (advance_phase_of p one rate-8000)) (from_zero 0x4019_21fb_5444_2d17)
    ≡ 1 ∷ 0 ∷ 0 ∷ 0 ∷ 1 ∷ 1 ∷ 1 ∷ 1 ∷ []
unfolding answered_by le lt neg f64
cycles = refl

-- G7. Of the eight settings the two rates and the two depths have ends; shapes, drift and stereo must be finite.
pub wow-rates : map (λ r. params_ok (params_of r one one one one one one one)) (about 0x408f_4000_0000_0000)
    ≡ true ∷ false ∷ true ∷ false ∷ false ∷ false ∷ false ∷ []
unfolding params_ok le neg f64
wow-rates = refl

pub wow-depths : map (λ d. params_ok (params_of one d one one one one one one)) (about 0x4092_c000_0000_0000)
    ≡ true ∷ false ∷ true ∷ false ∷ false ∷ false ∷ false ∷ []
unfolding params_ok le neg f64
wow-depths = refl

pub flutter-rates : map (λ r. params_ok (params_of one one one r one one one one)) (about 0x408f_4000_0000_0000)
    ≡ true ∷ false ∷ true ∷ false ∷ false ∷ false ∷ false ∷ []
unfolding params_ok le neg f64
flutter-rates = refl

pub flutter-depths : map (λ d. params_ok (params_of one one one one d one one one)) (about 0x4092_c000_0000_0000)
    ≡ true ∷ false ∷ true ∷ false ∷ false ∷ false ∷ false ∷ []
unfolding params_ok le neg f64
flutter-depths = refl

pub wow-shapes : map (λ x. params_ok (params_of one one x one one one one one)) finite_ends
    ≡ true ∷ true ∷ false ∷ false ∷ false ∷ []
unfolding params_ok le neg f64
wow-shapes = refl

pub flutter-shapes : map (λ x. params_ok (params_of one one one one one x one one)) finite_ends
    ≡ true ∷ true ∷ false ∷ false ∷ false ∷ []
unfolding params_ok le neg f64
flutter-shapes = refl

pub drifts : map (λ x. params_ok (params_of one one one one one one x one)) finite_ends
    ≡ true ∷ true ∷ false ∷ false ∷ false ∷ []
unfolding params_ok le neg f64
drifts = refl

pub stereos : map (λ x. params_ok (params_of one one one one one one one x)) finite_ends
    ≡ true ∷ true ∷ false ∷ false ∷ false ∷ []
unfolding params_ok le neg f64
stereos = refl
