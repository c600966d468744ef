-- `fir_filter::sums::straight` meets its contract: the two runs are one sum over the lags. Assumes nothing.
use mathlib.Core.Path.{◌≡◌, ◌∙◌}
use mathlib.Core.Logic.{inl, inr}
use Prim.Native.Nat.{ℕ, ◌+◌, ◌*◌}
use native.Mathlib.Omega.{arith}
use lib.Ieee.{of_bits}
use Rattle.fir_filter.specs.Runs.{plain_to, Visits}
use Rattle.fir_filter.proofs.Joined.{First, first-is, first-visits, second-visits, sum-small}
use Rattle.fir_filter.proofs.Joined.{joined}
use Rattle.fir_filter.proofs.sums.straight.Goals as goal
use Rattle.fir_filter.proofs.sums.straight.Goals.{After-least-first}

-- The index of the second run, as the code has it.
plain-index : (taps len phase k step above count : ℕ) → Visits taps len (phase + k * 1) step above count
    → Visits taps len (phase + k) step above count
plain-index taps len phase k step above count v =
    record {
      high = v.high;
      few = v.few;
      short = v.short;
      inside = λ j l. omega (arith, v.inside j l);
    }

-- How many lags the first run has.
first : (c : After-least-first) → let a = c.args in First a.lags a.head c.least-first.result
first c = first-is _ _ _ c.least-first.ensures

pub straight_run-sum-requires : goal.straight_run-sum-requires
straight_run-sum-requires c = first-visits _ _ _ _ _ _ _ c.requires (first c)

pub overflow_add-phase : goal.overflow_add-phase
overflow_add-phase c =
    elim (sum-small _ _ _ _ _ _ _ c.requires (first (goal.at.overflow_add-phase c).After-least-first)) [
      | inl h ↦ rw h (omega arith)
      | inr h ↦ omega (arith, h, c.well_formed.0.1)
    ]

pub overflow_sub-lags : goal.overflow_sub-lags
overflow_sub-lags c = (first (goal.at.overflow_sub-lags c).After-least-first).some

pub straight_run-requires : goal.straight_run-requires
straight_run-requires c =
    plain-index _ _ _ _ _ _ _ (second-visits _ _ _ _ _ _ _ c.requires
    (first (goal.at.straight_run-requires c).After-least-first))

pub returns : goal.returns
unfolding of_bits
returns c =
    let n = c.least-first.result in
    let e : c.args.phase + n ≡ c.args.phase + n * 1 = omega arith in
    c.straight_run.ensures
    ∙ rw (c.straight_run-sum.ensures, e)
    (joined plain_to c.args.coefficients.now c.args.history.now _ _ _ _ _ c.requires
    (first (goal.at.returns c).After-least-first))
