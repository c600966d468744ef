-- The level of a report of `residual` that is not refused (W13g): it exists if the sum is above 0, so that only
-- stretches without a difference have none. Assumes nothing.
use mathlib.Core.Path.{◌≡◌}
use mathlib.Core.Bool.{true, and-true}
use Prim.Native.Nat.{◌≤◌}
use native.Mathlib.Nat.{le_trans, mul-le-mul, mul-le-mul_left}
use native.Mathlib.Omega.{arith}
use borrow.Author.Tests.{le-leb}
use lib.Dec.{ltb}
use Rattle.residual.specs.declared.Report.{Report}
use Rattle.residual.specs.Report.{sum_of}
use Rattle.residual.specs.Refusals.{report_ok}
use Rattle.residual.proofs.ValidReport.{valid}
use Rattle.decibels.specs.Decibels.{tenths_below, largest, level_if, level_of}

pub report-level : (r : Report) → report_ok r ≡ true
    → level_of r.number (sum_of r) ≡ level_if (ltb 0 (sum_of r)) (tenths_below r.number (sum_of r))
unfolding level_of
report-level r ok =
    let v = valid r ok in
    let l : r.largest ≤ 16777215 = omega (arith, v.small) in
    let h : sum_of r ≤ largest r.number = le_trans v.most (mul-le-mul_left r.number (mul-le-mul l l)) in
    rw (le-leb r.number 68719476736 v.few, le-leb (sum_of r) (largest r.number) h, and-true)
