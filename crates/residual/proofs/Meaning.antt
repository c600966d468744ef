-- W13. What a report says, without any running. Extended from the empty one, it is the number of all differences, the
-- greatest, the index at which that stands first, and the sum of the squares. By one step behind any list. Assumes
-- nothing.
use Rattle.std.proofs.Common.{◌≡◌, ℕ, ◌+◌, ◌*◌, ◌/◌, ◌%◌, ◌^◌, ◌<◌, ◌≤◌, max, Bool, true, false, cond, ltb, List, []}
use Rattle.std.proofs.Common.{◌∷◌, ◌++◌, length, ℤ, sym, refl, ap, ◌∙◌, append_assoc, append-nil, le_of_lt, arith}
use Rattle.std.proofs.Common.{ltb-false, ltb-true, ne_eqb, Option, Some}
use mathlib.Core.List.{foldl}
use native.Mathlib.Nat.{max-eq_left, max-eq_right}
use Rattle.residual.specs.declared.Report.{Report}
use Rattle.residual.specs.Report.{differences, empty_report, sum_of, newer, one, carried}
use Rattle.residual.specs.Report.{greatest, first_at, squares, place_of, report_of}
use Rattle.residual.proofs.Greatest.{greatest-more, squares-more, length_more}
use Rattle.residual.proofs.Greatest.{here, alone, greatest-found, found, above}

-- ---- the step
first : (d : ℕ) → Some 0 ≡ place_of (d ∷ [])
unfolding place_of
first d = ap Some (sym (here (greatest (d ∷ [])) d [] (alone d)))

-- The place of the greatest, if the difference is above all so far and if it is not.
placed-new : (e : ℕ) (ds : List ℕ) (d : ℕ) → greatest (e ∷ ds) < d
    → Some (length (e ∷ ds)) ≡ place_of ((e ∷ ds) ++ (d ∷ []))
unfolding place_of
placed-new e ds d h =
    ap Some (sym (above d (e ∷ ds) h)
    ∙ ap (λ (g : ℕ). first_at g ((e ∷ ds) ++ (d ∷ []))) (sym (greatest-more (e ∷ ds) d ∙ max-eq_right (le_of_lt h))))

placed-old : (e : ℕ) (ds : List ℕ) (d : ℕ) → d ≤ greatest (e ∷ ds) → place_of (e ∷ ds) ≡ place_of ((e ∷ ds) ++ (d ∷ []))
unfolding place_of
placed-old e ds d h =
    ap Some (sym (found (greatest (e ∷ ds)) (e ∷ ds) (d ∷ []) (omega (arith, greatest-found e ds)))
    ∙ ap (λ (g : ℕ). first_at g ((e ∷ ds) ++ (d ∷ []))) (sym (greatest-more (e ∷ ds) d ∙ max-eq_left h)))

largest-one : (ds : List ℕ) (d : ℕ) → cond (newer (report_of ds) d) d (greatest ds) ≡ greatest (ds ++ (d ∷ []))
unfolding report_of
largest-one [] d = alone d
largest-one (e ∷ ds) d = go (ltb (greatest (e ∷ ds)) d) refl ∙ sym (greatest-more (e ∷ ds) d)
  where
    go : (t : Bool) → ltb (greatest (e ∷ ds)) d ≡ t
        → cond (newer (report_of (e ∷ ds)) d) d (greatest (e ∷ ds)) ≡ max (greatest (e ∷ ds)) d
    go true h = rw (ne_eqb (length (e ∷ ds)) 0 (λ z. omega arith), h) (omega (arith, ltb-true (greatest (e ∷ ds)) d h))
    go false h =
        rw (ne_eqb (length (e ∷ ds)) 0 (λ z. omega arith), h) (omega (arith, ltb-false (greatest (e ∷ ds)) d h))

place-one : (ds : List ℕ) (d : ℕ)
    → cond (newer (report_of ds) d) (Some (length ds)) (place_of ds) ≡ place_of (ds ++ (d ∷ []))
unfolding report_of
place-one [] d = first d
place-one (e ∷ ds) d = go (ltb (greatest (e ∷ ds)) d) refl
  where
    go : (t : Bool) → ltb (greatest (e ∷ ds)) d ≡ t
        → cond (newer (report_of (e ∷ ds)) d) (Some (length (e ∷ ds))) (place_of (e ∷ ds))
        ≡ place_of ((e ∷ ds) ++ (d ∷ []))
    go true h =
        rw (ne_eqb (length (e ∷ ds)) 0 (λ z. omega arith), h) (placed-new e ds d (ltb-true (greatest (e ∷ ds)) d h))
    go false h =
        rw (ne_eqb (length (e ∷ ds)) 0 (λ z. omega arith), h) (placed-old e ds d (ltb-false (greatest (e ∷ ds)) d h))

report-is : (ds : List ℕ) {n g s : ℕ} {p : Option ℕ} → n ≡ length ds → g ≡ greatest ds → p ≡ place_of ds
    → s ≡ squares ds
    → ◌≡◌ {A = Report}
    (record { number = n; largest = g; place = p; high = s / 2 ^ 64; low = s % 2 ^ 64 })
    (report_of ds)
unfolding report_of
report-is ds en eg ep es = rw (en, eg, ep, es)

sum_one : (ds : List ℕ) (d : ℕ) → sum_of (report_of ds) + d * d ≡ squares (ds ++ (d ∷ []))
unfolding report_of
sum_one ds d = omega (arith, squares-more ds d)

one_more : (ds : List ℕ) (d : ℕ) → one (report_of ds) d ≡ report_of (ds ++ (d ∷ []))
unfolding one report_of
one_more ds d = report-is (ds ++ (d ∷ [])) (sym (length_more ds d)) (largest-one ds d) (place-one ds d) (sum_one ds d)

-- ---- any number of steps, from any beginning and from the empty list
carried_on : (ds us : List ℕ) → foldl one (report_of ds) us ≡ report_of (ds ++ us)
carried_on ds [] = ap report_of (sym (append-nil ds))
carried_on ds (u ∷ us) =
    ap (λ (r : Report). foldl one r us) (one_more ds u) ∙ carried_on (ds ++ (u ∷ [])) us
    ∙ ap report_of (append_assoc ds (u ∷ []) us)

nothing_yet : empty_report ≡ report_of []
unfolding report_of greatest squares place_of
nothing_yet = refl

pub from_nothing : (xs ys : List ℤ) → carried empty_report xs ys ≡ report_of (differences xs ys)
unfolding carried
from_nothing xs ys =
    ap (λ (r : Report). foldl one r (differences xs ys)) nothing_yet ∙ carried_on [] (differences xs ys)

-- The two halves make the sum.
whole : (ds : List ℕ) → sum_of (report_of ds) ≡ squares ds
unfolding report_of
whole ds = omega arith

pub sum_is : (xs ys : List ℤ) → sum_of (carried empty_report xs ys) ≡ squares (differences xs ys)
sum_is xs ys = ap sum_of (from_nothing xs ys) ∙ whole (differences xs ys)
