-- Texts compared and tested as the library does it. Assumes nothing.
use Rattle.std.proofs.Common.{nat_eq}
use Rattle.std.specs.Cmp.Lexicographic.{pointwise}
use Rattle.std.specs.List.{list_all, zip}
use mathlib.Core.Path.{◌≡◌, refl, sym, ap}
use mathlib.Core.Bool.{Bool, true, false, ◌&&◌, true≢false}
use mathlib.Core.List.{List, [], ◌∷◌}
use Prim.Native.Nat.{ℕ, ◌<◌}
use native.Mathlib.Omega.{arith}
use borrow.Author.Tests.{ltb-true}
use lib.Dec.{eqb, ltb}
use lib.ListN.{length, take}
use Rattle.spelling.specs.Words.{same_bytes, split_in, in_name, all_in_name, is_named}

-- ---- two texts
pub as_compared : (a b : List ℕ) → pointwise nat_eq a b ≡ same_bytes a b
unfolding same_bytes
as_compared [] [] = refl
as_compared [] (y ∷ ys) = refl
as_compared (x ∷ xs) [] = refl
as_compared (x ∷ xs) (y ∷ ys) = ap (λ (t : Bool). eqb x y && t) (as_compared xs ys)

abbrev pub alike : ℕ × ℕ → Bool
alike p = eqb p.0 p.1

pub as_zipped : (a b : List ℕ) → length a ≡ length b → list_all alike (zip a b) ≡ pointwise nat_eq a b
as_zipped [] [] e = refl
as_zipped [] (y ∷ ys) e = absurd (omega (arith, e))
as_zipped (x ∷ xs) [] e = absurd (omega (arith, e))
as_zipped (x ∷ xs) (y ∷ ys) e = ap (λ (t : Bool). eqb x y && t) (as_zipped xs ys (omega (arith, e)))

pub unlike-lengths : (a b : List ℕ) → (length a ≡ length b → ⊥) → same_bytes a b ≡ false
unfolding same_bytes
unlike-lengths [] [] h = absurd (h refl)
unlike-lengths [] (y ∷ ys) h = refl
unlike-lengths (x ∷ xs) [] h = refl
unlike-lengths (x ∷ xs) (y ∷ ys) h = by (eqb x y) (unlike-lengths xs ys (λ e. h (omega arith)))
  where
    by : (t : Bool) → same_bytes xs ys ≡ false → (t && same_bytes xs ys) ≡ false
    by true r = r
    by false r = refl

-- ---- a name
pub as_tested : (text : List ℕ) → list_all in_name text ≡ all_in_name text
unfolding all_in_name
as_tested [] = refl
as_tested (c ∷ cs) = ap (λ (t : Bool). in_name c && t) (as_tested cs)

-- What is NAME=VALUE has an `=`.
pub has_value : (text : List ℕ) → is_named text ≡ true → split_in text < length text
has_value text h = by (ltb 0 (split_in text)) (ltb (split_in text) (length text)) refl h
  where
    by : (x t : Bool) → ltb (split_in text) (length text) ≡ t
        → (x && (t && all_in_name (take (split_in text) text))) ≡ true
        → split_in text < length text
    by true true e h = ltb-true (split_in text) (length text) e
    by true false e h = absurd (true≢false (sym h))
    by false t e h = absurd (true≢false (sym h))
