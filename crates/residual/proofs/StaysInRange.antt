-- W13. A report that the calls have made is never refused by 3: the empty one is in range, and a call that is not
-- refused keeps a report in range. Assumes nothing.
use Rattle.std.proofs.Common.{◌≡◌, ℕ, ◌+◌, ◌*◌, ◌^◌, ◌<◌, ◌≤◌, Bool, true, false, ltb, List, [], ◌∷◌, length, ℤ, refl}
use Rattle.std.proofs.Common.{add-mul, mul-le-mul, mul-le-mul_left, one-mul, arith, ltb-false, ltb-true, lt-ltb, eq-eqb}
use Rattle.std.proofs.Common.{ne_eqb, Some}
use mathlib.Core.List.{foldl}
use Rattle.residual.specs.declared.Report.{Report}
use Rattle.residual.specs.Report.{differences, empty_report, sum_of, newer, one, carried}
use Rattle.residual.specs.Refusals.{numbers_ok, report_ok, verdict}
use Rattle.residual.proofs.Stretches.{Small, none, more, small-differences, length-differences}
use Rattle.residual.proofs.ValidReport.{Valid, valid-ok, accepted}
use Rattle.residual.proofs.Agreeing.{Fit, nothing, something, fit}

pub empty-in-range : report_ok empty_report ≡ true
unfolding report_ok numbers_ok
empty-in-range = refl

-- The two halves of a sum make the sum.
pub sum_one : (r : Report) (d : ℕ) → sum_of (one r d) ≡ sum_of r + d * d
unfolding one
sum_one r d = omega arith

pub number-one : (r : Report) (d : ℕ) → (one r d).number ≡ r.number + 1
unfolding one
number-one r d = refl

-- The bounds of the sum, for a new largest difference and for the old one.
new-most : (n l s d : ℕ) → s ≤ n * (l * l) → l ≤ d → s + d * d ≤ (n + 1) * (d * d)
new-most n l s d h g =
    let k : n * (l * l) ≤ n * (d * d) = mul-le-mul_left n (mul-le-mul g g) in
    rw (add-mul n 1 (d * d), one-mul (d * d)) (omega arith)

old-most : (n l s d : ℕ) → s ≤ n * (l * l) → d ≤ l → s + d * d ≤ (n + 1) * (l * l)
old-most n l s d h g = let k : d * d ≤ l * l = mul-le-mul g g in rw (add-mul n 1 (l * l), one-mul (l * l)) (omega arith)

module _ (r : Report) (d : ℕ) (v : Valid r) (few : r.number < 2 ^ 36) (small : d < 2 ^ 24) where
  stay-new : newer r d ≡ true → r.largest ≤ d → Valid (one r d)
  unfolding one
  stay-new e g = record {
    few = omega arith;
    small = rw e small;
    placed = rw e (lt-ltb r.number (r.number + 1) (omega arith));
    least = rw (e, sum_one r d) (omega arith);
    most = rw (e, sum_one r d) (new-most r.number r.largest (sum_of r) d v.most g);
  }

  stay-old : (k : ℕ) → newer r d ≡ false → d ≤ r.largest → r.place ≡ Some k → k < r.number → Valid (one r d)
  unfolding one
  stay-old k e g p l = record {
    few = omega arith;
    small = rw e v.small;
    placed = rw (e, p) (lt-ltb k (r.number + 1) (omega arith));
    least = rw (e, sum_one r d) (omega (arith, v.least));
    most = rw (e, sum_one r d) (old-most r.number r.largest (sum_of r) d v.most g);
  }

  stay-one : Fit r → Valid (one r d)
  stay-one (nothing n l p) = stay-new (rw (eq-eqb r.number 0 n)) (omega arith)
  stay-one (something k n p) = go (ltb r.largest d) refl
    where
      go : (t : Bool) → ltb r.largest d ≡ t → Valid (one r d)
      go true e = stay-new (rw (ne_eqb r.number 0 (λ z. omega arith), e)) (omega (arith, ltb-true r.largest d e))
      go false e =
          stay-old k (rw (ne_eqb r.number 0 (λ z. omega arith), e)) (ltb-false r.largest d e) p
          (ltb-true k r.number (rw p at v.placed))

stay-fold : (r : Report) (ds : List ℕ) → Small ds → Valid r → r.number + length ds ≤ 2 ^ 36 → Valid (foldl one r ds)
stay-fold r [] none v h = v
stay-fold r (d ∷ ds) (more g s) v h =
    stay-fold (one r d) ds s (stay-one r d v (omega arith) g (fit r v)) (omega (arith, number-one r d))

pub stays : (r : Report) (xs ys : List ℤ) → verdict r xs ys ≡ 0 → report_ok (carried r xs ys) ≡ true
unfolding carried
stays r xs ys z =
    let a = accepted r xs ys z in
    valid-ok (foldl one r (differences xs ys))
    (stay-fold r (differences xs ys) (small-differences xs ys a.left a.right) a.report
    (omega (arith, a.room, length-differences xs ys a.long)))
