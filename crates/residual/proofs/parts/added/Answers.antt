-- `residual::parts::added` meets its contract, by the sum in two halves. Assumes nothing.
use Rattle.std.proofs.Common.{◌^◌, ◌<◌, ◌≤◌, ltb, arith}
use Rattle.residual.specs.Blocks.{sum_of_parts}
use Rattle.residual.proofs.SumHalves.{one_at_most}
use Rattle.residual.proofs.Counting.{high-below, added_is}
use Rattle.residual.proofs.parts.added.Goals as goal

pub overflow_add-high : goal.overflow_add-high
overflow_add-high c =
    let t = c.args.t in
    let low = c.wrapping_add_u64-low.result in
    let k : c.carry.result ≤ 1 =
    rw c.carry.ensures (one_at_most (ltb low (sum_of_parts c.args.p))) in
    let h = high-below t.high t.low t.number c.requires.sum (omega (arith, c.requires.counts)) in
    record { fits = omega (arith, h) }

pub returns : goal.returns
returns c =
    let small : sum_of_parts c.args.p < 2 ^ 64 = omega (arith, c.well_formed.1) in
    added_is c.args.t c.args.n (sum_of_parts c.args.p) c.requires.half small
    c.wrapping_add_u64-low.ensures.value c.carry.ensures

pub wrapping_add_u64-low-requires : goal.wrapping_add_u64-low-requires
wrapping_add_u64-low-requires c = tt

pub carry-requires : goal.carry-requires
carry-requires c = tt
