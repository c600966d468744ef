-- `fir_filter::sums::plain` meets its contract: the two runs are one sum over the lags. Assumes nothing.
use mathlib.Core.Path.{◌∙◌}
use mathlib.Core.Logic.{inl, inr}
use native.Mathlib.Nat.{zero-mul}
use native.Mathlib.Omega.{arith}
use lib.Ieee.{of_bits}
use Rattle.fir_filter.specs.Runs.{plain_to}
use Rattle.fir_filter.proofs.Joined.{First, first-is, first-visits, second-visits, product_small, sum-small}
use Rattle.fir_filter.proofs.Joined.{joined}
use Rattle.fir_filter.proofs.sums.plain.Goals as goal
use Rattle.fir_filter.proofs.sums.plain.Goals.{After-least-first}

-- How many lags the first run has.
first : (c : After-least-first) → let a = c.args in
    First a.lags a.head c.least-first.result
first c = first-is _ _ _ c.least-first.ensures

-- Neighbouring coefficients: the step is 1.
pub straight-requires : goal.straight-requires
straight-requires c = rw c.if-step-eq1.true at c.requires

pub returns-then-step-eq1 : goal.returns-then-step-eq1
returns-then-step-eq1 c = c.straight.ensures ∙ rw c.if-step-eq1.true

pub plain_run-sum-requires : goal.plain_run-sum-requires
plain_run-sum-requires c = first-visits _ _ _ _ _ _ _ c.requires (first c)

pub overflow_mul-first : goal.overflow_mul-first
overflow_mul-first c =
    omega (
      arith,
      product_small _ _ _ _ _ _ _ c.requires (first (goal.at.overflow_mul-first c).After-least-first),
      c.well_formed.0.1,
    )

pub overflow_add-phase : goal.overflow_add-phase
overflow_add-phase c =
    elim (sum-small _ _ _ _ _ _ _ c.requires (first (goal.at.overflow_add-phase c).After-least-first)) [
      | inl h ↦ rw (h, zero-mul) (omega arith)
      | inr h ↦ omega (arith, h, c.well_formed.0.1)
    ]

pub overflow_sub-lags : goal.overflow_sub-lags
overflow_sub-lags c = (first (goal.at.overflow_sub-lags c).After-least-first).some

pub plain_run-requires : goal.plain_run-requires
plain_run-requires c =
    second-visits _ _ _ _ _ _ _ c.requires (first (goal.at.plain_run-requires c).After-least-first)

pub returns : goal.returns
unfolding of_bits
returns c =
    c.plain_run.ensures
    ∙ rw c.plain_run-sum.ensures
    (joined plain_to c.args.coefficients.now c.args.history.now _ _ _ _ _ c.requires
    (first (goal.at.returns c).After-least-first))
