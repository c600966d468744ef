-- Counting on plain numbers agrees with extending a report, for every report that is in range. Assumes nothing.
use Rattle.std.proofs.Common.{◌≡◌, ℕ, zero, suc, ◌*◌, ◌<◌, ◌≤◌, Bool, true, false, cond, ltb, List, [], ◌∷◌, sym, refl}
use Rattle.std.proofs.Common.{ap, ◌∙◌, mul-le-mul, arith, ltb-true, lt-ltb, eq-eqb, ne_eqb, eqb-true}
use Rattle.std.proofs.Common.{Option, Some, None}
use mathlib.Core.List.{foldl}
use Rattle.residual.specs.declared.Report.{Report}
use Rattle.residual.specs.Report.{one}
use Rattle.residual.specs.Refusals.{place_ok}
use Rattle.residual.specs.Tallies.{index_of, tally_of, told_of, step_of}
use Rattle.residual.proofs.ValidReport.{Valid}

-- A report is empty, with no place and no largest difference, or it is not empty and has a place.
pub data Fit (r : Report) : Type 0 where
  nothing : r.number ≡ 0 → r.largest ≡ 0 → r.place ≡ None → Fit r
  something : (k : ℕ) → 0 < r.number → r.place ≡ Some k → Fit r

no-square : (l : ℕ) → l * l ≤ 0 → l ≡ 0
no-square zero h = refl
no-square (suc l) h =
    let p : 1 * 1 ≤ suc l * suc l =
    mul-le-mul {n₁ = 1} {m₁ = 1} {n₂ = suc l} {m₂ = suc l} (omega arith) (omega arith) in
    absurd (omega arith)

pub fit : (r : Report) → Valid r → Fit r
fit r v = go r.place refl
  where
    go : (p : Option ℕ) → r.place ≡ p → Fit r
    go None e =
        let n : r.number ≡ 0 =
        eqb-true r.number 0 (ap (λ (p : Option ℕ). place_ok p r.number) (sym e) ∙ v.placed) in
        nothing n (no-square r.largest (omega (arith, v.least, rw n at v.most))) e
    go (Some k) e =
        let l = ltb-true k r.number (ap (λ (p : Option ℕ). place_ok p r.number) (sym e) ∙ v.placed) in
        something k (omega (arith, l)) e

-- ---- a report and its numbers
pub told_back : (r : Report) → Fit r → told_of (tally_of r) ≡ r
unfolding told_of tally_of
told_back r (nothing n l p) = rw (eq-eqb r.number 0 n, ← p)
told_back r (something k n p) = rw (ne_eqb r.number 0 (λ z. omega arith), p, ← p)

pick_same : (t : Bool) (n : ℕ) → n ≡ cond t n n
pick_same true n = refl
pick_same false n = refl

largest-first : (d : ℕ) → d ≡ cond (ltb 0 d) d 0
largest-first zero = pick_same (ltb 0 0) 0
largest-first (suc d) = rw (lt-ltb 0 (suc d) (omega arith))

index-pick : (t : Bool) (j k : ℕ) → index_of (cond t (Some j) (Some k)) ≡ cond t j k
index-pick true j k = refl
index-pick false j k = refl

-- ---- a step keeps both
pub same_step : (r : Report) (d : ℕ) → Fit r → tally_of (one r d) ≡ step_of (tally_of r) d
unfolding tally_of step_of one
same_step r d (nothing n l p) = rw (eq-eqb r.number 0 n, p, l, n, ← largest-first d, ← pick_same (ltb 0 d) 0)
same_step r d (something k n p) =
    rw (ne_eqb r.number 0 (λ z. omega arith), p, index-pick (ltb r.largest d) r.number k)

pub fit-step : (r : Report) (d : ℕ) → Fit r → Fit (one r d)
unfolding one
fit-step r d (nothing n l p) = something r.number (omega arith) (rw (eq-eqb r.number 0 n))
fit-step r d (something k n p) = go (ltb r.largest d) refl
  where
    go : (t : Bool) → ltb r.largest d ≡ t → Fit (one r d)
    go true e = something r.number (omega arith) (rw (ne_eqb r.number 0 (λ z. omega arith), e))
    go false e = something k (omega arith) (rw (ne_eqb r.number 0 (λ z. omega arith), e, p))

pub same_fold : (r : Report) (ds : List ℕ) → Fit r → told_of (foldl step_of (tally_of r) ds) ≡ foldl one r ds
same_fold r [] f = told_back r f
same_fold r (d ∷ ds) f = rw (← same_step r d f) (same_fold (one r d) ds (fit-step r d f))
