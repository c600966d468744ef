-- `absent_report::samples::with_absent` meets its contract, number by number. Assumes nothing.
use Rattle.absent_report.proofs.Steps.{together}
use Rattle.absent_report.proofs.samples.with_absent.Goals as goal

pub returns : goal.returns
returns c =
    let s = c.args in
    together s.frame s.s s.report c.some.ensures c.some-2.ensures c.some-3.ensures
    c.more.ensures c.more-2.ensures c.more-3.ensures c.more-4.ensures c.later.ensures
