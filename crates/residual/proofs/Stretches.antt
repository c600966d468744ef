-- Stretches of 24-bit values and their differences, element by element, as a loop over an index needs them. Assumes
-- nothing.
use Rattle.std.proofs.Common.{◌≡◌, ℕ, zero, suc, ◌^◌, ◌<◌, true, List, [], ◌∷◌, length, get_or, take, ℤ, pos, refl, ap}
use Rattle.std.proofs.Common.{◌∙◌, le_of_suc-le-suc, arith, w32, to_z, of_z}
use mir.ValLaws.{to_z-of_z}
use Rattle.residual.specs.Report.{difference, differences}
use Rattle.residual.specs.Refusals.{in24, all24}
use Rattle.residual.specs.Tallies.{Alike}
use Rattle.report_tests.proofs.BothTests.{left-true, right-true}
use Rattle.residual.proofs.Signs.{below-24, fits-24}

-- ---- every value of a stretch
at-24 : (xs : List ℤ) (i : ℕ) → i < length xs → all24 xs ≡ true → in24 (get_or xs i (pos 0)) ≡ true
unfolding all24
at-24 [] i h t = absurd (omega arith)
at-24 (x ∷ xs) zero h t = left-true (in24 x) (all24 xs) t
at-24 (x ∷ xs) (suc i) h t = at-24 xs i (le_of_suc-le-suc h) (right-true (in24 x) (all24 xs) t)

-- A value as the code holds it.
abbrev held : ℤ → ℤ
held x = to_z w32 (of_z w32 x)

held-24 : (x : ℤ) → in24 x ≡ true → held x ≡ x
held-24 x h = to_z-of_z w32 x (fits-24 x h)

-- ---- the differences
pub length-differences : (xs ys : List ℤ) → length xs ≡ length ys → length (differences xs ys) ≡ length xs
unfolding differences
length-differences [] ys e = refl
length-differences (x ∷ xs) [] e = absurd (omega arith)
length-differences (x ∷ xs) (y ∷ ys) e = ap suc (length-differences xs ys (omega arith))

pub at-difference : (xs ys : List ℤ) (i : ℕ) → length xs ≡ length ys → i < length xs
    → get_or (differences xs ys) i 0 ≡ difference (get_or xs i (pos 0)) (get_or ys i (pos 0))
unfolding differences
at-difference [] ys i e h = absurd (omega arith)
at-difference (x ∷ xs) [] i e h = absurd (omega arith)
at-difference (x ∷ xs) (y ∷ ys) zero e h = refl
at-difference (x ∷ xs) (y ∷ ys) (suc i) e h = at-difference xs ys i (omega arith) (le_of_suc-le-suc h)

-- Each difference is below 2^24.
pub data Small : List ℕ → Type 0 where
  none : Small []
  more : {d : ℕ} {ds : List ℕ} → d < 2 ^ 24 → Small ds → Small (d ∷ ds)

pub small-differences : (xs ys : List ℤ) → all24 xs ≡ true → all24 ys ≡ true → Small (differences xs ys)
unfolding differences all24
small-differences [] ys p q = none
small-differences (x ∷ xs) [] p q = none
small-differences (x ∷ xs) (y ∷ ys) p q =
    more (below-24 x y (left-true (in24 x) (all24 xs) p) (left-true (in24 y) (all24 ys) q))
    (small-differences xs ys (right-true (in24 x) (all24 xs) p) (right-true (in24 y) (all24 ys) q))

pub small-take : (ds : List ℕ) (i : ℕ) → Small ds → Small (take i ds)
small-take [] zero s = none
small-take [] (suc i) s = none
small-take (d ∷ ds) zero s = none
small-take (d ∷ ds) (suc i) (more h s) = more h (small-take ds i s)

-- ---- the two values at index i, as the code holds them: both have 24 bits, and their difference
module _ {xs ys : List ℤ} (alike : Alike xs ys) (i : ℕ) (inside : i < length xs) where
  abbrev x : ℤ
  x = get_or xs i (pos 0)

  abbrev y : ℤ
  y = get_or ys i (pos 0)

  x-24 : in24 x ≡ true
  x-24 = at-24 xs i inside alike.left

  y-24 : in24 y ≡ true
  y-24 = at-24 ys i (omega (arith, alike.long)) alike.right

  pub both-held : (in24 (held x) ≡ true) × (in24 (held y) ≡ true)
  both-held = (ap in24 (held-24 x x-24) ∙ x-24, ap in24 (held-24 y y-24) ∙ y-24)

  pub held-difference : {d : ℕ} → d ≡ difference (held x) (held y) → d ≡ difference x y
  held-difference e = e ∙ rw (held-24 x x-24, held-24 y y-24)

  pub difference_below : {d : ℕ} → d ≡ difference x y → d < 2 ^ 24
  difference_below e = rw e (below-24 x y x-24 y-24)
