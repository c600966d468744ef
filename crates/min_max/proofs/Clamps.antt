-- A clamped number lies from low to high, so its magnitude is at most theirs. A test that failed shows the opposite
-- order. Assumes nothing.
use mathlib.Core.Path.{◌≡◌, refl}
use mathlib.Core.Bool.{Bool, true, false, not, cond}
use Prim.Native.Nat.{ℕ}
use lib.Dec.{T}
use lib.Ieee.{Float, nan, inf, fin, lt, le, is_nan}
use Rattle.magnitude.specs.Bounds.{AtMost}
use Rattle.magnitude.proofs.Comparisons.{nlt→le, le_itself, le-numbers}
use Rattle.magnitude.proofs.OrderAndBounds.{between-at-most}
use Rattle.min_max.specs.Choice.{clamped}

pub clamped-nan : (low high : Float) → clamped nan low high ≡ nan
unfolding clamped lt
clamped-nan low nan = refl
clamped-nan low (inf s) = refl
clamped-nan low (fin s m e) = refl

module _ (x low high : Float) (number : T (not (is_nan x))) (range : T (le low high)) where
  pub clamped-ge : T (le low (clamped x low high))
  unfolding clamped
  clamped-ge = go (lt x low) (lt high x) (nlt→le low x (le-numbers low high range).0 number)
    where
      go : (s t : Bool) → (T (not s) → T (le low x)) → T (le low (cond s low (cond t high x)))
      go true t h = le_itself low (le-numbers low high range).0
      go false true h = range
      go false false h = h tt

  pub clamped-le : T (le (clamped x low high) high)
  unfolding clamped
  clamped-le = go (lt x low) (lt high x) (nlt→le x high number (le-numbers low high range).1)
    where
      go : (s t : Bool) → (T (not t) → T (le x high)) → T (le (cond s low (cond t high x)) high)
      go true t h = range
      go false true h = le_itself high (le-numbers low high range).1
      go false false h = h tt

  pub clamped-at-most : (b : ℕ) → AtMost b low → AtMost b high → AtMost b (clamped x low high)
  clamped-at-most b p q = between-at-most b low (clamped x low high) high p q clamped-ge clamped-le
