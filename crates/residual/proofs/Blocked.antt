-- Counting two stretches block by block: what is counted of the one block, and what is left behind it. By induction
-- over the elements. Assumes nothing.
use Rattle.std.proofs.Common.{◌≡◌, true, List, [], ◌∷◌, ◌++◌, length, ℤ, sym, refl, ap, ◌∙◌, ◌⊎◌, inl, inr, subst}
use Rattle.std.proofs.Common.{arith}
use Rattle.std.proofs.Common.{length-append}
use mathlib.Core.List.{foldl, foldl-append}
use Rattle.residual.specs.declared.tally.Tally.{Tally}
use Rattle.residual.specs.Report.{differences}
use Rattle.residual.specs.Refusals.{in24, all24}
use Rattle.residual.specs.Tallies.{step_of, Alike, Room, Ready}
use Rattle.report_tests.proofs.BothTests.{left-true, right-true, both_true}
use Rattle.residual.proofs.Cutting.{differences-append}
use Rattle.residual.proofs.Stretches.{small-differences, length-differences}
use Rattle.residual.proofs.Counting.{room-fold, room-less}

all-front : (xs us : List ℤ) → all24 (xs ++ us) ≡ true → all24 xs ≡ true
unfolding all24
all-front [] us h = refl
all-front (x ∷ xs) us h =
    both_true (left-true (in24 x) (all24 (xs ++ us)) h) (all-front xs us (right-true (in24 x) (all24 (xs ++ us)) h))

all-back : (xs us : List ℤ) → all24 (xs ++ us) ≡ true → all24 us ≡ true
unfolding all24
all-back [] us h = h
all-back (x ∷ xs) us h = all-back xs us (right-true (in24 x) (all24 (xs ++ us)) h)

module _ (v : Tally) (xs us ys vs : List ℤ) (long : length xs ≡ length ys) (r : Ready v (xs ++ us) (ys ++ vs)) where
  alike : Alike xs ys
  alike = record {
    long = long;
    left = all-front xs us r.alike.left;
    right = all-front ys vs r.alike.right;
  }

  pub ready-front : Ready v xs ys
  ready-front = record { room = room-less (length xs) (omega (arith, length-append xs us)) r.room; alike = alike }

  pub ready-back : Ready (foldl step_of v (differences xs ys)) us vs
  ready-back = record {
    room =
        room-fold v (differences xs ys) (length us) (small-differences xs ys alike.left alike.right)
        (subst (Room v) (omega (arith, length-append xs us, length-differences xs ys long)) r.room);
    alike = record {
      long = omega (arith, long, r.alike.long, length-append xs us, length-append ys vs);
      left = all-back xs us r.alike.left;
      right = all-back ys vs r.alike.right;
    };
  }

  pub folded : foldl step_of (foldl step_of v (differences xs ys)) (differences us vs)
      ≡ foldl step_of v (differences (xs ++ us) (ys ++ vs))
  folded =
      sym (foldl-append step_of v (differences xs ys) (differences us vs))
      ∙ ap (foldl step_of v) (sym (differences-append xs ys us vs long))

-- Where one of the two stretches has ended, no differences are left.
pub none-left : (xs ys : List ℤ) → (length xs ≡ 0) ⊎ (length ys ≡ 0) → differences xs ys ≡ []
unfolding differences
none-left [] ys h = refl
none-left (x ∷ xs) [] h = refl
none-left (x ∷ xs) (y ∷ ys) (inl h) = absurd (omega arith)
none-left (x ∷ xs) (y ∷ ys) (inr h) = absurd (omega arith)
