-- Horner's rule over the sums of the powers is the polynomial, and the result by ordinary floats is used only if it is
-- finite. Assumes nothing.
use mathlib.Core.Path.{◌≡◌, sym, ap, ◌∙◌, subst}
use mathlib.Core.Bool.{Bool, true}
use mathlib.Core.List.{List}
use lib.Dec.{T}
use lib.Ieee.{Float}
use lib.Ieee.Scale.{finite}
use Rattle.farrow8_powers.specs.Sums.{powers_of}
use Rattle.farrow8_powers.specs.declared.Powers.{Powers}
use Rattle.farrow8.specs.Kernel.{horner, polynomial_of}

pub horner-is : (x : List Float) (s : Powers) (mu : Float) → s ≡ powers_of x → horner s mu ≡ polynomial_of x mu
unfolding polynomial_of
horner-is x s mu e = ap (λ (s : Powers). horner s mu) e

-- Let t be the result of the test of r.
pub sure : {r w : Float} {t : Bool} → (T (finite r) → r ≡ w) → t ≡ finite r → t ≡ true → r ≡ w
sure h e taken = h (subst T (sym (sym e ∙ taken)) tt)
