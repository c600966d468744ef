-- `residual::compare` meets its contract: the answer is the number of a refusal, or the extended report. Assumes
-- nothing.
use Rattle.std.proofs.Common.{◌≡◌, ℕ, zero, suc, List, ℤ, sym, refl, ◌∙◌}
use Rattle.residual.specs.declared.Report.{Report}
use Rattle.residual.specs.declared.Compared.TheVariants as compared
use Rattle.residual.specs.Report.{carried}
use Rattle.residual.specs.Refusals.{verdict, answer_of}
use Rattle.residual.proofs.compare.Goals as goal

refused : (k : ℕ) {v : ℕ} (r : Report) → (k ≡ 0 → ⊥) → k ≡ v → compared.Refused k ≡ answer_of v r
refused zero r h e = absurd (h refl)
refused (suc k) r h e = rw (← e)

taken : (r : Report) (xs ys : List ℤ) {n : Report} → verdict r xs ys ≡ 0 → n ≡ carried r xs ys
    → compared.Carried n ≡ answer_of (verdict r xs ys) (carried r xs ys)
taken r xs ys v e = rw (v, e)

pub returns-then-no-ne0 : goal.returns-then-no-ne0
returns-then-no-ne0 c =
    let s = c.args in
    refused c.due-no.result (carried s.report s.a.now s.b.now) c.if-no-ne0.true
    c.due-no.ensures

pub returns : goal.returns
returns c =
    let s = c.args in
    taken s.report s.a.now s.b.now (sym c.due-no.ensures ∙ c.if-no-ne0.false)
    c.counted.ensures

pub due-no-requires : goal.due-no-requires
due-no-requires c = tt
