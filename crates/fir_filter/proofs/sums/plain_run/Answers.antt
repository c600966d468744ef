-- `fir_filter::sums::plain_run` meets its contract, turn by turn. Assumes nothing.
use borrow.Author.Rules.{scaled_Fits}
use mathlib.Core.Path.{refl}
use Prim.Native.Nat.{◌-◌, ◌<◌}
use native.Mathlib.Omega.{arith}
use lib.ListN.{length}
use Rattle.fir_filter.proofs.RunTurns.{begun, coefficient-there, sample-there, gone, arrived}
use Rattle.fir_filter.proofs.sums.plain_run.Goals as goal
use Rattle.fir_filter.proofs.sums.plain_run.Goals.{In-loop-p}

pub loop-p-init : goal.loop-p-init
loop-p-init c = begun _ _ _ _ _ _ _ _ c.requires.few

-- Inside the loop both elements are there.
coefficient : (c : In-loop-p) →
    c.loop-p.i < length c.args.coefficients.now
coefficient c =
    coefficient-there _ _ _ _ _ _ _ _ _ _ _ _ c.loop-p.invariant c.loop-p-test.true
    c.requires

sample : (c : In-loop-p) →
    c.loop-p.p - 1 < length c.args.history.now
sample c =
    sample-there _ _ _ _ _ _ _ _ _ _ _ _ c.loop-p.invariant c.loop-p-test.true
    c.requires

pub offset_bounds-coefficients-i : goal.offset_bounds-coefficients-i
offset_bounds-coefficients-i c =
    scaled_Fits _ (length c.args.coefficients.now) 8 (coefficient c) c.well_formed.0.1

pub bounds-coefficients-i : goal.bounds-coefficients-i
bounds-coefficients-i c = coefficient (goal.at.bounds-coefficients-i c).In-loop-p

pub offset_bounds-history-p : goal.offset_bounds-history-p
offset_bounds-history-p c =
    scaled_Fits _ (length c.args.history.now) 8 (sample (goal.at.offset_bounds-history-p c).In-loop-p)
    c.well_formed.1.0.1

pub bounds-history-p : goal.bounds-history-p
bounds-history-p c = sample (goal.at.bounds-history-p c).In-loop-p

pub overflow_add-i : goal.overflow_add-i
overflow_add-i c =
    omega (arith, coefficient (goal.at.overflow_add-i c).In-loop-p, c.requires.short, c.well_formed.0.1)

pub loop-p-preserved : goal.loop-p-preserved
loop-p-preserved c =
    gone _ _ _ _ _ _ _ _ _ _ _ _ c.loop-p.invariant c.loop-p-test.true c.requires _
    refl

pub returns : goal.returns
returns c = arrived _ _ _ _ _ _ _ _ _ _ _ _ c.loop-p.invariant c.loop-p-test.false
