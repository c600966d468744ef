-- A weight before any factor, and after one more, in any arithmetic. Assumes nothing.
use mathlib.Core.Path.{◌≡◌, refl, sym, ap, ◌∙◌}
use Prim.Native.Nat.{ℕ, ◌+◌}
use native.Mathlib.Numerals.{add-one}
use Rattle.lagrange_factors.specs.Weight.{Arithmetic, factor, weight}

module _ {A : Type 0} (a : Arithmetic A) (x : A) (k : ℕ) where
  pub none : a.one ≡ weight a x k 0
  unfolding weight
  none = refl

  pub turn : (j : ℕ) {v w : A} → v ≡ weight a x k j → w ≡ factor a x k j v → w ≡ weight a x k (j + 1)
  unfolding weight
  turn j p q = q ∙ ap (factor a x k j) p ∙ ap (weight a x k) (sym (add-one j))
