-- The first sample that does not fit is where the library's `position` finds one. Assumes nothing.
use mathlib.Core.Path.{◌≡◌, refl}
use mathlib.Core.Bool.{Bool, true, false, not, cond}
use mathlib.Core.List.{List, [], ◌∷◌}
use Prim.Native.Nat.{ℕ, suc, ◌+◌, ◌≤◌}
use native.Mathlib.Omega.{arith}
use borrow.Author.Tests.{ltb-false}
use lib.Dec.{ltb}
use lib.Ieee.{Float}
use lib.ListN.{length}
use Rattle.std.specs.Prelude.{Some, None, position, unwrap_or}
use Rattle.std.specs.List.{position_or_len}
use Rattle.sample_kind.specs.declared.SampleKind.{SampleKind}
use Rattle.stored_samples.specs.Stored.{fits_in}
use Rattle.rounded_samples.specs.Rounded.{misfit_in}

one_more : (b : Bool) (m n : ℕ) → m ≡ n → cond (not (not b)) (1 + m) 0 ≡ cond b (suc n) 0
one_more true m n e = omega arith
one_more false m n e = refl

one-within : (b : Bool) (m n : ℕ) → m ≤ n → cond b (suc m) 0 ≤ suc n
one-within true m n h = omega arith
one-within false m n h = omega arith

at-most : (m n : ℕ) → m ≤ n → (b : Bool) → ltb m n ≡ b → unwrap_or (cond b (Some m) None) n ≡ m
at-most m n h true e = refl
at-most m n h false e = omega (arith, ltb-false m n e)

module _ (kind : SampleKind) where
  place : (xs : List Float) → position_or_len (λ (x : Float). not (fits_in kind x)) xs ≡ misfit_in kind xs
  unfolding misfit_in
  place [] = refl
  place (x ∷ xs) = one_more (fits_in kind x) _ _ (place xs)

  pub within : (xs : List Float) → misfit_in kind xs ≤ length xs
  unfolding misfit_in
  within [] = omega arith
  within (x ∷ xs) = one-within (fits_in kind x) _ _ (within xs)

  pub first-place : (xs : List Float)
      → unwrap_or (position (λ (x : Float). not (fits_in kind x)) xs) (length xs) ≡ misfit_in kind xs
  first-place xs = rw (place xs) (at-most (misfit_in kind xs) (length xs) (within xs) _ refl)
