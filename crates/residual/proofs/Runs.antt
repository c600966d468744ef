-- W13a, W13e, W13h. Any calls, of which some may be refused, leave the report of one call over the accepted ones
-- joined; so cutting the stretch differently gives the same report. By induction over the calls. Assumes nothing.
use Rattle.std.proofs.Common.{◌≡◌, ℕ, zero, suc, ◌+◌, ◌^◌, ◌≤◌, true, List, [], ◌∷◌, length, sym, refl, ap, ◌∙◌}
use Rattle.std.proofs.Common.{true≢false, arith, le-leb}
use Rattle.residual.specs.declared.Report.{Report}
use Rattle.residual.specs.declared.Compared.TheVariants as compared
use Rattle.residual.specs.Report.{differences, empty_report, sum_of, carried, squares, report_of}
use Rattle.residual.specs.Refusals.{all24, report_ok, verdict, compared_of}
use Rattle.residual.specs.Runs.{Call, answer, ran, kept, all_taken, firsts, seconds}
use Rattle.residual.proofs.ValidReport.{valid, accepted}
use Rattle.residual.proofs.Cutting.{cut}
use Rattle.residual.proofs.StaysInRange.{stays}
use Rattle.residual.proofs.Meaning.{from_nothing, sum_is}
use Rattle.residual.proofs.Calls.{number-carried, same-verdict}

-- ---- a call by its refusal
was-taken : (r : Report) (c : Call) → verdict r c.first c.second ≡ 0
    → answer r c ≡ compared.Carried (carried r c.first c.second)
was-taken r c z = rw z

was-refused : (r : Report) (c : Call) (k : ℕ) → verdict r c.first c.second ≡ suc k
    → answer r c ≡ compared.Refused (suc k)
was-refused r c k z = rw z

-- W13h. A refused call answers its number, and the report after it is the one before it.
pub adds-nothing : (r : Report) (c : Call) (cs : List Call) (k : ℕ) → verdict r c.first c.second ≡ suc k
    → (answer r c ≡ compared.Refused (suc k)) × (ran r (c ∷ cs) ≡ ran r cs) × (kept r (c ∷ cs) ≡ kept r cs)
unfolding ran kept
adds-nothing r c cs k z = let e = was-refused r c k z in (e, rw e, rw e)

nothing-compared : (r : Report) → carried r [] [] ≡ r
unfolding carried differences
nothing-compared r = refl

-- ---- W13e. The report of any calls is that of the accepted ones joined
pub joined : (r : Report) (cs : List Call)
    → ran r cs ≡ carried r (firsts (kept r cs)) (seconds (kept r cs))
unfolding ran kept firsts seconds
joined r [] = sym (nothing-compared r)
joined r (c ∷ cs) = go (verdict r c.first c.second) refl (λ s. joined s cs)
  where
    go : (v : ℕ) → verdict r c.first c.second ≡ v
        → ((s : Report) → ran s cs ≡ carried s (firsts (kept s cs)) (seconds (kept s cs)))
        → ran r (c ∷ cs) ≡ carried r (firsts (kept r (c ∷ cs))) (seconds (kept r (c ∷ cs)))
    go zero z rest =
        let s = carried r c.first c.second in
        rw (was-taken r c z)
        (rest s ∙ cut r c.first c.second (firsts (kept s cs)) (seconds (kept s cs))
        (accepted r c.first c.second z).long)
    go (suc k) z rest = rw (was-refused r c k z) (rest r)

-- The one call over them is not refused.
none-due : (r : Report) → report_ok r ≡ true → verdict r [] [] ≡ 0
unfolding verdict all24
none-due r h = rw (h, le-leb (r.number + 0) (2 ^ 36) (omega (arith, (valid r h).few)))

pub joined-taken : (r : Report) (cs : List Call) → report_ok r ≡ true
    → verdict r (firsts (kept r cs)) (seconds (kept r cs)) ≡ 0
unfolding kept firsts seconds
joined-taken r [] h = none-due r h
joined-taken r (c ∷ cs) h = go (verdict r c.first c.second) refl (λ s. joined-taken s cs)
  where
    go : (v : ℕ) → verdict r c.first c.second ≡ v
        → ((s : Report) → report_ok s ≡ true → verdict s (firsts (kept s cs)) (seconds (kept s cs)) ≡ 0)
        → verdict r (firsts (kept r (c ∷ cs))) (seconds (kept r (c ∷ cs))) ≡ 0
    go zero z rest =
        let s = carried r c.first c.second in
        rw (was-taken r c z)
        (sym (same-verdict r c.first c.second (firsts (kept s cs)) (seconds (kept s cs)) z)
        ∙ rest s (stays r c.first c.second z))
    go (suc k) z rest = rw (was-refused r c k z) (rest r h)

pub one-call : (r : Report) (cs : List Call) → report_ok r ≡ true
    → compared_of r (firsts (kept r cs)) (seconds (kept r cs)) ≡ compared.Carried (ran r cs)
one-call r cs h = rw (joined-taken r cs h, joined r cs)

-- From the empty report on, it is what `report_of` in Report.antt says of all differences.
pub from_empty : (cs : List Call)
    → ran empty_report cs ≡ report_of (differences (firsts (kept empty_report cs)) (seconds (kept empty_report cs)))
from_empty cs = joined empty_report cs ∙ from_nothing (firsts (kept empty_report cs)) (seconds (kept empty_report cs))

-- W13d. Its two halves are the sum of the squares.
pub sum-ran : (cs : List Call)
    → sum_of (ran empty_report cs)
    ≡ squares (differences (firsts (kept empty_report cs)) (seconds (kept empty_report cs)))
sum-ran cs =
    ap sum_of (joined empty_report cs) ∙ sum_is (firsts (kept empty_report cs)) (seconds (kept empty_report cs))

-- ---- cutting the same accepted samples differently gives the same report
pub cut-anyhow : (r : Report) (cs ds : List Call) → firsts (kept r cs) ≡ firsts (kept r ds)
    → seconds (kept r cs) ≡ seconds (kept r ds) → ran r cs ≡ ran r ds
cut-anyhow r cs ds e f = joined r cs ∙ rw (e, f) (sym (joined r ds))

all-kept : (r : Report) (cs : List Call) → all_taken r cs ≡ true → kept r cs ≡ cs
unfolding kept all_taken
all-kept r [] h = refl
all-kept r (c ∷ cs) h = go (verdict r c.first c.second) refl (λ s. all-kept s cs)
  where
    go : (v : ℕ) → verdict r c.first c.second ≡ v → ((s : Report) → all_taken s cs ≡ true → kept s cs ≡ cs)
        → kept r (c ∷ cs) ≡ c ∷ cs
    go zero z rest =
        let s = carried r c.first c.second in
        rw (was-taken r c z) (ap (λ (ts : List Call). c ∷ ts) (rest s (rw (was-taken r c z) at h)))
    go (suc k) z rest = absurd (true≢false (sym (rw (was-refused r c k z) at h)))

pub cut-plainly : (r : Report) (cs ds : List Call) → all_taken r cs ≡ true → all_taken r ds ≡ true
    → firsts cs ≡ firsts ds → seconds cs ≡ seconds ds → ran r cs ≡ ran r ds
cut-plainly r cs ds t u e f =
    cut-anyhow r cs ds (rw (all-kept r cs t, all-kept r ds u) e) (rw (all-kept r cs t, all-kept r ds u) f)

-- ---- W13a. The number is how many were compared, and never above 2^36
pub number-ran : (r : Report) (cs : List Call) → report_ok r ≡ true
    → ((ran r cs).number ≡ r.number + length (firsts (kept r cs))) × ((ran r cs).number ≤ 2 ^ 36)
number-ran r cs h =
    let a = accepted r (firsts (kept r cs)) (seconds (kept r cs)) (joined-taken r cs h) in
    let n : (ran r cs).number ≡ r.number + length (firsts (kept r cs)) =
    rw (joined r cs) (number-carried r (firsts (kept r cs)) (seconds (kept r cs)) a.long) in
    (n, omega (arith, n, a.room))

-- A report that the calls have made is never refused by 3.
pub stays-valid : (r : Report) (cs : List Call) → report_ok r ≡ true → report_ok (ran r cs) ≡ true
stays-valid r cs h = rw (joined r cs) (stays r (firsts (kept r cs)) (seconds (kept r cs)) (joined-taken r cs h))
