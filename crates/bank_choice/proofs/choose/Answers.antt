-- `bank_choice::choose` meets its contract: if nothing is refused the bank's rate is in range, and the choice is the
-- definition's. Assumes nothing.
use Rattle.std.proofs.Common.{◌≡◌, ℕ, zero, suc, Bool, true, false, cond, not, sym, refl, ◌∙◌, arith}
use lib.Ieee.{Float, is_nan}
use Rattle.bank_choice.specs.declared.Choice.{Choice}
use Rattle.bank_choice.specs.declared.Selected.TheVariants.{Refused}
use Rattle.bank_choice.specs.Rates.{bank_ok}
use Rattle.bank_choice.specs.Choosing.{chosen_of, no_choice, choose_verdict, selected_by}
use Rattle.bank_choice.specs.Inner.{choice_of, pick_choice}
use Rattle.bank_choice.proofs.choose.Goals as goal

-- If nothing is refused the bank's rate is in range.
in-range : (top rate : Float) → choose_verdict top rate ≡ 0 → choice_of top rate ≡ chosen_of top rate
in-range top rate = go (bank_ok top)
  where
    go : (b : Bool) → ◌≡◌ {A = ℕ} (cond b (cond (not (is_nan rate)) 0 7) 1) 0
        → pick_choice b (chosen_of top rate) no_choice ≡ chosen_of top rate
    go true h = refl
    go false h = absurd (omega arith)

refused : (k : ℕ) (c : Choice) → (k ≡ 0 → ⊥) → Refused k ≡ selected_by k c
refused zero c h = absurd (h refl)
refused (suc k) c h = refl

pub returns-then-no-eq0 : goal.returns-then-no-eq0
returns-then-no-eq0 c =
    let a = c.args in
    let none : choose_verdict a.max_rate a.rate ≡ 0 = sym c.refusal-no.ensures ∙ c.if-no-eq0.true in
    rw (c.choice_or_zero.ensures, in-range a.max_rate a.rate none, none)

pub returns-else-no-eq0 : goal.returns-else-no-eq0
returns-else-no-eq0 c = rw (← c.refusal-no.ensures) (refused _ _ c.if-no-eq0.false)
