-- The numbers that the code computes from the counts before and after a call are the call's absent taps, whatever its
-- verdict. Assumes nothing.
use Rattle.std.proofs.Common.{◌≡◌, ℕ, zero, suc, ◌+◌, List, length, sym, refl, ◌∙◌, arith, length-set, eq-eqb, ne_eqb}
use lib.ListN.{length-replicate}
use lib.Ieee.{Float}
use Rattle.ring.specs.Length.{zeros}
use Rattle.variable_delay.specs.Reader.{stored, position_of, state_after}
use Rattle.variable_delay.specs.declared.VariableDelay.{VariableDelay}
use Rattle.absent_taps.proofs.Laws.{by_length}
use Rattle.told_call.specs.Told.{unless_refused, absent_of_call, counted_of}

pub by-counts : (v : ℕ) (d : VariableDelay) (xs : List Float) (x y : Float) (n : ℕ)
    → counted_of (length xs) d.accepted (state_after v d).accepted y n
    ≡ unless_refused v (absent_of_call d.accepted xs x y n)
by-counts zero d xs x y n =
    rw (ne_eqb d.accepted (d.accepted + 1) (λ e. omega arith))
    (by_length (zeros (length xs)) (stored d.accepted xs x)
    (length-replicate (length xs) _ ∙ sym (length-set xs _ x)) (d.accepted + 1) (position_of d.accepted y) n)
by-counts (suc k) d xs x y n = rw (eq-eqb d.accepted d.accepted refl)
