-- If a comparison holds, both of its operands are numbers, because a NaN is in no order. A number that is an f32 is
-- also an f64. Assumes nothing.
use Rattle.std.proofs.Common.{◌≡◌, Bool, true, false, not, ◌&&◌, T, sym, refl, ◌∙◌, true≢false}
use lib.Ieee.{Float, nan, inf, fin, binary32, binary64, fits, is_nan, lt, le, eq}
use lib.Ieee.Fits.{and_i, fits_widens}
use Rattle.fused_step.specs.Steps.{Numbers}

module _ (holds : Float → Float → Bool) (left : (y : Float) → holds nan y ≡ false)
    (right : (x : Float) → holds x nan ≡ false) where
  numbers : (x y : Float) → holds x y ≡ true → Numbers x y
  unfolding is_nan
  numbers nan y h = absurd (true≢false (sym h ∙ left y))
  numbers (inf s) nan h = absurd (true≢false (sym h ∙ right (inf s)))
  numbers (inf s) (inf t) h = record { first = tt; second = tt }
  numbers (inf s) (fin t n d) h = record { first = tt; second = tt }
  numbers (fin s m e) nan h = absurd (true≢false (sym h ∙ right (fin s m e)))
  numbers (fin s m e) (inf t) h = record { first = tt; second = tt }
  numbers (fin s m e) (fin t n d) h = record { first = tt; second = tt }

less-nan : (x : Float) → lt x nan ≡ false
unfolding lt
less-nan nan = refl
less-nan (inf s) = refl
less-nan (fin s m e) = refl

at-most-nan : (x : Float) → le x nan ≡ false
unfolding lt eq le
at-most-nan nan = refl
at-most-nan (inf s) = refl
at-most-nan (fin s m e) = refl

pub less-numbers : (x y : Float) → lt x y ≡ true → Numbers x y
unfolding lt
less-numbers = numbers lt (λ y. refl) less-nan

pub at-most-numbers : (x y : Float) → le y x ≡ true → Numbers x y
unfolding lt eq le
at-most-numbers x y h =
    let n = numbers le (λ z. refl) at-most-nan y x h in record { first = n.second; second = n.first }

-- What a cast from f32 to f64 requires.
pub widens : (x : Float) → T (fits binary32 x) → T (not (is_nan x)) → T (fits binary64 x && not (is_nan x))
widens x h number = and_i (fits binary64 x) (not (is_nan x)) (fits_widens x h) number
