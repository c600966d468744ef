-- The answer of `table_refusal`, split into its two tests again, for a reader that has refusals of its own between
-- them. If the settings fail, the other test does not count. Assumes nothing.
use mathlib.Core.Path.{◌≡◌}
use mathlib.Core.Bool.{Bool, true, false, not}
use Prim.Native.Nat.{ℕ}
use lib.Dec.{eqb}
use Rattle.answer.specs.Refusals.{lowest_of}

pub told-apart : {A : Type 0} (own lent : Bool) (f : Bool → Bool → A) → ((a b : Bool) → f false a ≡ f false b)
    → {no : ℕ} → no ≡ lowest_of own lent true true true true true true
    → f (not (eqb no 1)) (not (eqb no 2)) ≡ f own lent
told-apart true true f still e = rw e
told-apart true false f still e = rw e
told-apart false lent f still e = rw e (still true lent)

-- If both pass, there is no refusal.
pub both-pass : {own lent : Bool} → own ≡ true → lent ≡ true → lowest_of own lent true true true true true true ≡ 0
both-pass p q = rw (p, q)
