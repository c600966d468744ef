-- E3, N1. Sine and cosine up to 256 in magnitude, and 2^x up to 1, by computing. Assumes nothing.
use mathlib.Core.Path.{◌≡◌, refl}
use mathlib.Core.List.{[], ◌∷◌, map}
use Rattle.elementary.specs.Answers.{refusal_of, sine_of, cosine_of, exp2_of}
use Rattle.range_ends.specs.Floats.{f64, about}

pub sines : map (λ x. refusal_of (sine_of x)) (about 0x4070_0000_0000_0000) ≡ 0 ∷ 1 ∷ 0 ∷ 1 ∷ 1 ∷ 1 ∷ 1 ∷ []
unfolding sine_of f64
sines = refl

pub cosines : map (λ x. refusal_of (cosine_of x)) (about 0x4070_0000_0000_0000) ≡ 0 ∷ 1 ∷ 0 ∷ 1 ∷ 1 ∷ 1 ∷ 1 ∷ []
unfolding cosine_of f64
cosines = refl

pub powers : map (λ x. refusal_of (exp2_of x)) (about 0x3ff0_0000_0000_0000) ≡ 0 ∷ 1 ∷ 0 ∷ 1 ∷ 1 ∷ 1 ∷ 1 ∷ []
unfolding exp2_of f64
powers = refl
