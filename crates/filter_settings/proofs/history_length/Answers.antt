-- `filter_settings::history_length` meets its contract, factor by factor. Assumes nothing.
use borrow.Author.Tests.{not-true, not-false, ne_eqb}
use mathlib.Core.Path.{◌≡◌, sym, ◌∙◌}
use mathlib.Core.Bool.{true}
use native.Mathlib.Nat.{div-one, add-zero}
use native.Mathlib.Omega.{arith}
use Rattle.filter_settings.specs.Ranges.{taps_ok}
use Rattle.filter_settings.proofs.InRange.{Taps, taps-in}
use Rattle.filter_settings.proofs.history_length.Goals as goal
use Rattle.filter_settings.proofs.history_length.Goals.{Else-not-taps_ok}

pub returns-then-not-taps_ok : goal.returns-then-not-taps_ok
returns-then-not-taps_ok c = rw (← c.taps_ok.ensures, not-true c.taps_ok.result c.if-not-taps_ok.true-raw)

passed : (c : Else-not-taps_ok) → taps_ok c.args.taps ≡ true
passed c = sym c.taps_ok.ensures ∙ not-false _ c.if-not-taps_ok.false-raw

inside : (c : Else-not-taps_ok) → Taps c.args.taps
inside c = taps-in _ (passed c)

pub returns-then-factor-eq1 : goal.returns-then-factor-eq1
returns-then-factor-eq1 c = rw (passed (goal.at.returns-then-factor-eq1 c).Else-not-taps_ok, c.if-factor-eq1.true)
    (sym (div-one _ ∙ add-zero _))

pub overflow_add-result : goal.overflow_add-result
overflow_add-result c = omega (arith, (inside (goal.at.overflow_add-result c).Else-not-taps_ok).most)

pub returns-then-factor-eq2 : goal.returns-then-factor-eq2
returns-then-factor-eq2 c = rw (passed (goal.at.returns-then-factor-eq2 c).Else-not-taps_ok, c.if-factor-eq2.true)

pub overflow_add-result-then-factor-eq4 : goal.overflow_add-result-then-factor-eq4
overflow_add-result-then-factor-eq4 c = omega (
  arith,
  (inside (goal.at.overflow_add-result-then-factor-eq4 c).Else-not-taps_ok).most,
)

pub returns-then-factor-eq4 : goal.returns-then-factor-eq4
returns-then-factor-eq4 c = rw (passed (goal.at.returns-then-factor-eq4 c).Else-not-taps_ok, c.if-factor-eq4.true)

pub returns : goal.returns
returns c =
    rw (
      passed (goal.at.returns c).Else-not-taps_ok,
      ne_eqb _ _ c.if-factor-eq1.false,
      ne_eqb _ _ c.if-factor-eq2.false,
      ne_eqb _ _ c.if-factor-eq4.false,
    )
