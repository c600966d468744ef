-- W11b, W11e, W11h. The oversampled readers at the ends of their ranges, by computing. Assumes nothing.
use mathlib.Core.Path.{◌≡◌, refl}
use mathlib.Core.Bool.{true, false}
use mathlib.Core.List.{[], ◌∷◌, map}
use Prim.Native.Nat.{ℕ}
use lib.Ieee.{Float, nan, le}
use Rattle.filter_settings.specs.Ranges.{taps_ok}
use Rattle.oversampled_refusals.specs.Outer.{verdict, reset_verdict}
use Rattle.oversampled_refusals.specs.declared.Outer.{Outer}
use Rattle.range_ends.specs.Floats.{f64, one, from_zero}

abbrev outer : ℕ → ℕ → Float → Outer
outer accepted inner previous = record { accepted = accepted; inner = inner; previous = previous }

-- W11b. The factor is 2 or 4, and the taps are odd and from 17 to 129.
pub factors : map (λ f. verdict true true f (outer 5 5 one) one one) (0 ∷ 1 ∷ 2 ∷ 3 ∷ 4 ∷ 5 ∷ 8 ∷ [])
    ≡ 1 ∷ 1 ∷ 0 ∷ 1 ∷ 0 ∷ 1 ∷ 1 ∷ []
unfolding le f64
factors = refl

pub taps : map taps_ok (15 ∷ 16 ∷ 17 ∷ 18 ∷ 128 ∷ 129 ∷ 131 ∷ [])
    ≡ false ∷ false ∷ true ∷ false ∷ false ∷ true ∷ false ∷ []
taps = refl

-- W11e. A delay is from 0, also -0.0, to 2^34.
pub delays : map (verdict true true 4 (outer 5 20 one) one) (from_zero 0x4210_0000_0000_0000)
    ≡ 5 ∷ 0 ∷ 0 ∷ 0 ∷ 6 ∷ 5 ∷ 5 ∷ 5 ∷ []
unfolding le f64
delays = refl

-- W11e, W11h. 2^34 samples are accepted and none more; above that the state is out of range.
pub accepted : map (λ n. verdict true true 2 (outer n 0 one) one one)
    (17179869183 ∷ 17179869184 ∷ 17179869185 ∷ []) ≡ 0 ∷ 8 ∷ 3 ∷ []
unfolding le f64
accepted = refl

-- W11h. The inner number is at most factor times the outer one, for a call and for a reset.
pub inner : map (λ n. verdict true true 4 (outer 5 n one) one one) (19 ∷ 20 ∷ 21 ∷ []) ≡ 0 ∷ 0 ∷ 3 ∷ []
unfolding le f64
inner = refl

pub inner-reset : map (λ n. reset_verdict true true 2 (outer 5 n one)) (10 ∷ 11 ∷ []) ≡ 0 ∷ 3 ∷ []
unfolding le f64
inner-reset = refl

-- The previous delay lies where a delay may.
pub previous : map (λ y. verdict true true 2 (outer 5 5 y) one one) (from_zero 0x4210_0000_0000_0000)
    ≡ 3 ∷ 0 ∷ 0 ∷ 0 ∷ 3 ∷ 3 ∷ 3 ∷ 3 ∷ []
unfolding le f64
previous = refl

-- N9. Of several numbers the lowest is given.
pub order : verdict false false 3 (outer 0 1 nan) nan nan ∷ verdict true false 2 (outer 0 1 nan) nan nan
    ∷ verdict true true 2 (outer 0 1 nan) nan nan ∷ verdict true true 2 (outer 0 0 one) nan nan
    ∷ verdict true true 2 (outer 17179869184 0 one) one nan ∷ [] ≡ 1 ∷ 2 ∷ 3 ∷ 4 ∷ 5 ∷ []
unfolding le f64
order = refl
