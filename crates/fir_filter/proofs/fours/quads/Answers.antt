-- `fir_filter::fours::quads` meets its contract: the two runs of each phase are one sum over the lags. Assumes nothing.
use Prim.Native.Nat.{ℕ, ◌+◌}
use native.Mathlib.Omega.{arith}
use lib.Ieee.{of_bits}
use Rattle.fir_filter.specs.Runs.{Visits}
use Rattle.fir_filter.proofs.Joined.{First, first-is, first-visits, second-visits, product_small}
use Rattle.fir_filter.proofs.PairSums.{all-joined}
use Rattle.fir_filter.proofs.fours.quads.Goals as goal
use Rattle.fir_filter.proofs.fours.quads.Goals.{After-least-first}

-- How many lags the first run has.
first : (c : After-least-first) → let a = c.args in First a.lags a.head c.least-first.result
first c = first-is _ _ _ c.least-first.ensures

pub quad_run-all-requires : goal.quad_run-all-requires
quad_run-all-requires c = first-visits _ _ _ _ _ _ _ c.requires (first c)

pub overflow_mul-first : goal.overflow_mul-first
overflow_mul-first c =
    omega (
      arith,
      product_small _ _ _ _ _ _ _ c.requires (first (goal.at.overflow_mul-first c).After-least-first),
      c.well_formed.0.1,
    )

pub overflow_sub-lags : goal.overflow_sub-lags
overflow_sub-lags c = (first (goal.at.overflow_sub-lags c).After-least-first).some

-- The index of the last phase in the second run, as the code has it.
swapped : (taps len phase k step above count : ℕ) → Visits taps len (phase + k) step above count
    → Visits taps len (k + phase) step above count
swapped taps len phase k step above count v =
    record {
      high = v.high;
      few = v.few;
      short = v.short;
      inside = λ j l. omega (arith, v.inside j l);
    }

pub quad_run-requires : goal.quad_run-requires
quad_run-requires c =
    swapped _ _ 3 _ _ _ _ (second-visits _ _ _ _ 3 _ _ c.requires
    (first (goal.at.quad_run-requires c).After-least-first))

pub returns : goal.returns
unfolding of_bits
returns c =
    all-joined c.args.coefficients.now c.args.history.now _ _ _ _ c.requires
    (first (goal.at.returns c).After-least-first)
    c.quad_run-all.result c.quad_run.result c.quad_run-all.ensures c.quad_run.ensures
