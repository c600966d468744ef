-- `residual::steps::step` meets its contract: the sum in two halves, the other fields one by one. Assumes nothing.
use Rattle.std.proofs.Common.{◌*◌, ◌≤◌, ltb, arith}
use Rattle.report_tests.proofs.WideSums.{square-below}
use Rattle.residual.proofs.SumHalves.{one_at_most}
use Rattle.residual.proofs.Counting.{high-below, step_is}
use Rattle.residual.proofs.steps.step.Goals as goal

pub overflow_mul-square : goal.overflow_mul-square
overflow_mul-square c = record { fits = omega (arith, square-below c.args.d c.requires.1) }

pub overflow_add-high : goal.overflow_add-high
overflow_add-high c =
    let t = c.args.t in
    let low = c.wrapping_add_u64-low.result in
    let k : c.carry.result ≤ 1 =
    rw c.carry.ensures (one_at_most (ltb low (c.args.d * c.args.d))) in
    let h = high-below t.high t.low t.number c.requires.0.sum (omega (arith, c.requires.0.counts)) in
    record { fits = omega (arith, h) }

pub returns : goal.returns
returns c =
    step_is c.args.t c.args.d c.requires.0.half (square-below c.args.d c.requires.1)
    c.wrapping_add_u64-low.ensures.value c.chosen.ensures c.chosen-2.ensures c.carry.ensures

pub wrapping_add_u64-low-requires : goal.wrapping_add_u64-low-requires
wrapping_add_u64-low-requires c = tt

pub carry-requires : goal.carry-requires
carry-requires c = tt
