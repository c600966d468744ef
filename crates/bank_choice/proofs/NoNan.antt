-- N7. A float that equals itself is not a NaN. Assumes nothing.
use Rattle.std.proofs.Common.{◌≡◌, ◌*◌, true, false, not, refl, eq-eqb}
use lib.Ieee.{Float, nan, inf, fin, up, down, eq, is_nan}

pub no_nan : (x : Float) → eq x x ≡ not (is_nan x)
unfolding eq is_nan
no_nan nan = refl
no_nan (inf true) = refl
no_nan (inf false) = refl
no_nan (fin true m e) = rw (eq-eqb (m * up e * down e) (m * up e * down e) refl)
no_nan (fin false m e) = rw (eq-eqb (m * up e * down e) (m * up e * down e) refl)
