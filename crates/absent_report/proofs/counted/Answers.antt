-- `absent_report::counted` meets its contract. The loop's invariant is that the report counts the samples up to the
-- place k. Assumes nothing.
use Rattle.std.proofs.Common.{ap, ◌∙◌, arith, take, take_all}
use Rattle.absent_report.specs.Samples.{counted_in}
use Rattle.absent_report.proofs.Cutting.{begun}
use Rattle.absent_report.proofs.Steps.{one_more, all_read}
use Rattle.absent_report.proofs.counted.Goals as goal

pub loop-k-init : goal.loop-k-init
loop-k-init c = begun c.args.report c.args.len c.args.accepted

pub loop-k-preserved : goal.loop-k-preserved
loop-k-preserved c =
    let s = c.args in
    let l = c.loop-k in
    one_more s.report s.len s.accepted (take c.number_read-n.result s.delays.now) l.k _ l.invariant (omega arith)
    c.with_sample-after.ensures

pub returns : goal.returns
returns c =
    let s = c.args in
    let n = c.number_read-n in
    let l = c.loop-k in
    l.invariant
    ∙ ap (counted_in s.report s.len s.accepted)
    (take_all l.k (take n.result s.delays.now) (omega arith)
    ∙ all_read s.accepted s.frames s.delays.now n.result n.ensures)
