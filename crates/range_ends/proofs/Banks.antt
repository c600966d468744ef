-- G6, N1, N2. Banks of tables at the ends of their rates, with slices of exactly the right length, by computing.
-- Assumes nothing.
use mathlib.Core.Path.{◌≡◌, refl}
use mathlib.Core.List.{[], ◌∷◌, map}
use lib.Ieee.{nan, le, sub, div}
use Rattle.bank_choice.specs.Rates.{ceiling_of, steps_of}
use Rattle.sinc_bank_f32.specs.Building.{set_verdict, bank_verdict}
use Rattle.range_ends.specs.Floats.{f64, one, across}

-- G6. The rate of a set and of a bank is from 1 to 2.
pub set-rates : map (λ r. set_verdict r 1081648) (across 0x3ff0_0000_0000_0000 0x4000_0000_0000_0000)
    ≡ 1 ∷ 0 ∷ 0 ∷ 1 ∷ 1 ∷ 1 ∷ 1 ∷ []
unfolding le f64
set-rates = refl

-- There is one set at the rate 1, and there are fifty at the rate 2.
pub bank-rates : bank_verdict (f64 0x3fef_ffff_ffff_ffff) 1081648 ∷ bank_verdict one 1081648
    ∷ bank_verdict (f64 0x4000_0000_0000_0000) 54082400 ∷ bank_verdict (f64 0x4000_0000_0000_0001) 54082400
    ∷ bank_verdict nan 0 ∷ []
    ≡ 1 ∷ 0 ∷ 0 ∷ 1 ∷ 1 ∷ []
unfolding steps_of ceiling_of le sub div f64
bank-rates = refl

-- N2, N9. The length; and 1 comes before 2.
pub set-lengths : map (set_verdict one) (1081647 ∷ 1081648 ∷ 1081649 ∷ []) ≡ 2 ∷ 0 ∷ 2 ∷ []
unfolding le f64
set-lengths = refl

pub bank-lengths : map (bank_verdict (f64 0x4000_0000_0000_0000)) (54082399 ∷ 54082400 ∷ 54082401 ∷ []) ≡ 2 ∷ 0 ∷ 2 ∷ []
unfolding steps_of ceiling_of le sub div f64
bank-lengths = refl

pub order : set_verdict nan 0 ∷ set_verdict one 0 ∷ bank_verdict nan 0 ∷ bank_verdict one 0 ∷ [] ≡ 1 ∷ 2 ∷ 1 ∷ 2 ∷ []
unfolding steps_of ceiling_of le sub div f64
order = refl
