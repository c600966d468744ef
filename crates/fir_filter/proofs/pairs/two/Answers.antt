-- `fir_filter::pairs::two` meets its contract: the two runs of each phase are one sum over the lags. Assumes nothing.
use mathlib.Core.Logic.{inl, inr}
use Prim.Native.Nat.{◌+◌}
use native.Mathlib.Nat.{zero-mul}
use native.Mathlib.Omega.{arith}
use lib.Ieee.{of_bits}
use Rattle.fir_filter.proofs.Joined.{First, first-is, first-visits, second-visits, product_small, sum-small}
use Rattle.fir_filter.proofs.PairSums.{both-joined, moved-visits}
use Rattle.fir_filter.proofs.pairs.two.Goals as goal
use Rattle.fir_filter.proofs.pairs.two.Goals.{After-least-first}

-- How many lags the first run has.
first : (c : After-least-first) → let a = c.args in First a.lags a.head c.least-first.result
first c = first-is _ _ _ c.least-first.ensures

pub two_run-both-requires : goal.two_run-both-requires
two_run-both-requires c = first-visits _ _ _ _ _ _ _ c.requires (first c)

pub overflow_mul-first : goal.overflow_mul-first
overflow_mul-first c =
    omega (
      arith,
      product_small _ _ _ _ _ _ _ c.requires (first (goal.at.overflow_mul-first c).After-least-first),
      c.well_formed.0.1,
    )

pub overflow_add-phase : goal.overflow_add-phase
overflow_add-phase c =
    elim (sum-small _ _ _ _ _ _ _ c.requires (first (goal.at.overflow_add-phase c).After-least-first)) [
      | inl h ↦ rw (h, zero-mul) (omega arith)
      | inr h ↦ omega (arith, h, c.well_formed.0.1)
    ]

pub overflow_sub-lags : goal.overflow_sub-lags
overflow_sub-lags c = (first (goal.at.overflow_sub-lags c).After-least-first).some

pub two_run-requires : goal.two_run-requires
two_run-requires c =
    moved-visits _ _ _ _ _ _ _ (second-visits _ _ _ _ (c.args.phase + 1) _ _ c.requires
    (first (goal.at.two_run-requires c).After-least-first))

pub returns : goal.returns
unfolding of_bits
returns c =
    both-joined c.args.coefficients.now c.args.history.now _ _ _ _ _ c.requires
    (first (goal.at.returns c).After-least-first)
    c.two_run-both.result c.two_run.result c.two_run-both.ensures c.two_run.ensures
