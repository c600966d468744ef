-- W13. Cutting the stretch differently gives the same answers: after a call that is not refused, the next call gives
-- the same report or refusal as one call over both stretches. Assumes nothing.
use Rattle.std.proofs.Common.{◌≡◌, ℕ, ◌+◌, Bool, true, false, ◌&&◌, eqb, List, [], ◌∷◌, ◌++◌, length, ℤ, sym, refl, ap}
use Rattle.std.proofs.Common.{◌∙◌, arith, length-append, eq-eqb, ne_eqb, eqb-true}
use mathlib.Core.List.{foldl}
use borrow.Author.Tests.{eqb-false}
use Rattle.residual.specs.declared.Report.{Report}
use Rattle.residual.specs.Report.{differences, one, carried}
use Rattle.residual.specs.Refusals.{in24, all24, report_ok, verdict, compared_of}
use Rattle.report_tests.proofs.BothTests.{left-true, right-true}
use Rattle.residual.proofs.Stretches.{length-differences}
use Rattle.residual.proofs.ValidReport.{accepted, valid-ok}
use Rattle.residual.proofs.Cutting.{cut}
use Rattle.residual.proofs.StaysInRange.{number-one, stays}

-- ---- each test of the second call, and of the one call
all-behind : (xs us : List ℤ) → all24 xs ≡ true → all24 (xs ++ us) ≡ all24 us
unfolding all24
all-behind [] us h = refl
all-behind (x ∷ xs) us h = rw (left-true (in24 x) (all24 xs) h, all-behind xs us (right-true (in24 x) (all24 xs) h))

same-lengths : (m n a b : ℕ) → m ≡ n → eqb a b ≡ eqb (m + a) (n + b)
same-lengths m n a b e = go (eqb a b) refl
  where
    go : (t : Bool) → eqb a b ≡ t → eqb a b ≡ eqb (m + a) (n + b)
    go true h = h ∙ sym (eq-eqb (m + a) (n + b) (omega (arith, eqb-true a b h)))
    go false h = h ∙ sym (ne_eqb (m + a) (n + b) (λ z. eqb-false a b h (omega arith)))

number-fold : (r : Report) (ds : List ℕ) → (foldl one r ds).number ≡ r.number + length ds
number-fold r [] = omega arith
number-fold r (d ∷ ds) = number-fold (one r d) ds ∙ omega (arith, number-one r d)

pub number-carried : (r : Report) (xs ys : List ℤ) → length xs ≡ length ys
    → (carried r xs ys).number ≡ r.number + length xs
unfolding carried
number-carried r xs ys e =
    number-fold r (differences xs ys) ∙ ap (λ (n : ℕ). r.number + n) (length-differences xs ys e)

pub same-verdict : (r : Report) (xs ys us vs : List ℤ) → verdict r xs ys ≡ 0
    → verdict (carried r xs ys) us vs ≡ verdict r (xs ++ us) (ys ++ vs)
unfolding verdict
same-verdict r xs ys us vs z =
    let a = accepted r xs ys z in
    let e1 : (all24 us && all24 vs) ≡ (all24 (xs ++ us) && all24 (ys ++ vs)) =
    rw (all-behind xs us a.left, all-behind ys vs a.right) in
    let e2 : eqb (length us) (length vs) ≡ eqb (length (xs ++ us)) (length (ys ++ vs)) =
    rw (length-append xs us, length-append ys vs)
    (same-lengths (length xs) (length ys) (length us) (length vs) a.long) in
    let e3 : report_ok (carried r xs ys) ≡ report_ok r = stays r xs ys z ∙ sym (valid-ok r a.report) in
    let n : (carried r xs ys).number + length us ≡ r.number + length (xs ++ us) =
    omega (arith, number-carried r xs ys a.long, length-append xs us) in
    rw (e1, e2, e3, n)

pub cut-calls : (r : Report) (xs ys us vs : List ℤ) → verdict r xs ys ≡ 0
    → compared_of (carried r xs ys) us vs ≡ compared_of r (xs ++ us) (ys ++ vs)
cut-calls r xs ys us vs z = rw (same-verdict r xs ys us vs z, cut r xs ys us vs (accepted r xs ys z).long)
