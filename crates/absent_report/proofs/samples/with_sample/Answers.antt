-- `absent_report::samples::with_sample` meets its contract: a sample is a block of one. Assumes nothing.
use Rattle.std.proofs.Common.{◌∙◌}
use Rattle.absent_report.proofs.Steps.{block-of-one}
use Rattle.absent_report.proofs.samples.with_sample.Goals as goal

pub returns : goal.returns
returns c =
    let s = c.args in
    c.with_absent.ensures ∙ rw (c.missing.ensures, c.nearest_u64_to_f64.ensures)
    (block-of-one s.report s.len s.frame s.delay)
