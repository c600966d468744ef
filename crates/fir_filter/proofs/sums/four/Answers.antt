-- `fir_filter::sums::four` meets its contract: what it adds are four turns of the run. Assumes nothing.
use borrow.Author.Rules.{scaled_Fits}
use native.Mathlib.Omega.{arith}
use lib.ListN.{length}
use Rattle.fir_filter.proofs.FourTurns.{There, there, four-turns}
use Rattle.fir_filter.proofs.sums.four.Goals as goal
use Rattle.fir_filter.proofs.sums.four.Goals.{Start}

inside : (c : Start) → There (length c.args.coefficients.now) c.args.i c.args.step
inside c = there _ _ _ _ _ c.requires

pub overflow_add-j : goal.overflow_add-j
overflow_add-j c = omega (arith, (inside c).second, c.well_formed.0.1)

pub overflow_add-k : goal.overflow_add-k
overflow_add-k c = omega (arith, (inside c).third, c.well_formed.0.1)

pub overflow_add-l : goal.overflow_add-l
overflow_add-l c = omega (arith, (inside c).fourth, c.well_formed.0.1)

pub offset_bounds-coefficients-i : goal.offset_bounds-coefficients-i
offset_bounds-coefficients-i c = scaled_Fits _ (length c.args.coefficients.now) 8 (inside c).first c.well_formed.0.1

pub bounds-coefficients-i : goal.bounds-coefficients-i
bounds-coefficients-i c = (inside (goal.at.bounds-coefficients-i c).Start).first

pub offset_bounds-coefficients-j : goal.offset_bounds-coefficients-j
offset_bounds-coefficients-j c =
    scaled_Fits _ (length c.args.coefficients.now) 8 (inside (goal.at.offset_bounds-coefficients-j c).Start).second
    c.well_formed.0.1

pub bounds-coefficients-j : goal.bounds-coefficients-j
bounds-coefficients-j c = (inside (goal.at.bounds-coefficients-j c).Start).second

pub offset_bounds-coefficients-k : goal.offset_bounds-coefficients-k
offset_bounds-coefficients-k c =
    scaled_Fits _ (length c.args.coefficients.now) 8 (inside (goal.at.offset_bounds-coefficients-k c).Start).third
    c.well_formed.0.1

pub bounds-coefficients-k : goal.bounds-coefficients-k
bounds-coefficients-k c = (inside (goal.at.bounds-coefficients-k c).Start).third

pub offset_bounds-coefficients-l : goal.offset_bounds-coefficients-l
offset_bounds-coefficients-l c =
    scaled_Fits _ (length c.args.coefficients.now) 8 (inside (goal.at.offset_bounds-coefficients-l c).Start).fourth
    c.well_formed.0.1

pub bounds-coefficients-l : goal.bounds-coefficients-l
bounds-coefficients-l c = (inside (goal.at.bounds-coefficients-l c).Start).fourth

pub returns : goal.returns
returns c =
    four-turns c.args.coefficients.now c.args.history.now _ _ _ _ (inside (goal.at.returns c).Start)
