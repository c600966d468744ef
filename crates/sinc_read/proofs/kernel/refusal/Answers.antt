-- `sinc_read::kernel::refusal` meets its contract, by the test of the position. Assumes nothing.
use mathlib.Core.Path.{sym, ◌∙◌}
use Rattle.sinc_read.proofs.AcceptedReading.{beyond, within}
use Rattle.sinc_read.proofs.kernel.refusal.Goals as goal

pub returns-then-position_ok : goal.returns-then-position_ok
returns-then-position_ok c =
    let a = c.args in
    c.table_refusal.ensures
    ∙ within a.taps a.phases a.len a.position
    (sym c.position_ok.ensures ∙ c.if-position_ok.true)

pub returns-else-position_ok : goal.returns-else-position_ok
returns-else-position_ok c =
    let a = c.args in
    beyond a.taps a.phases a.len a.position (sym c.position_ok.ensures ∙ c.if-position_ok.false)
