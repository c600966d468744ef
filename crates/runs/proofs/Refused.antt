-- K8, D1c. A call whose settings are bad, or whose table does not have its length, is refused by every reader. Wherever
-- it stands in a run, the run leaves the same, and accepts the same calls, without it. Assumes nothing.
use mathlib.Core.Path.{◌≡◌, subst}
use mathlib.Core.Bool.{false}
use mathlib.Core.List.{List, ◌∷◌, ◌++◌}
use lib.Dec.{T}
use lib.ListN.{length}
use lib.Ieee.Fits.{and_i}
use Rattle.variable_delay.proofs.AcceptedCall.{taken}
use Rattle.runs.specs.Runs.{Call, Reader, fit, due, after_by, run, accepted}
use Rattle.runs.proofs.Calls as calls
use Rattle.runs.proofs.Counted.{stays}

pub unfit-due : (r : Reader) (c : Call) → fit c ≡ false → due r c ≡ 0 → ⊥
unfit-due r c h e =
    let t = taken c.own c.lent r.state (length r.ring) c.input c.delay e in
    subst T h (and_i c.own c.lent t.owned t.lasting)

module _ (r : Reader) (xs : List Call) (c : Call) (ys : List Call) where
  pub refused-anywhere : (due (run r xs) c ≡ 0 → ⊥)
      → (run r (xs ++ c ∷ ys) ≡ run r (xs ++ ys)) × (accepted r (xs ++ c ∷ ys) ≡ accepted r (xs ++ ys))
  refused-anywhere = calls.refused-anywhere due after_by stays r xs c ys

  pub unfit-anywhere : fit c ≡ false
      → (run r (xs ++ c ∷ ys) ≡ run r (xs ++ ys)) × (accepted r (xs ++ c ∷ ys) ≡ accepted r (xs ++ ys))
  unfit-anywhere h = refused-anywhere (unfit-due (run r xs) c h)
