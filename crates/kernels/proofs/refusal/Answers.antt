-- `kernels::refusal` meets its contract, kernel by kernel. Assumes nothing.
use mathlib.Core.Path.{sym, ◌∙◌}
use Rattle.kernels.proofs.refusal.Goals as goal

pub returns-in-Cubic : goal.returns-in-Cubic
returns-in-Cubic c = rw c.in-Cubic.is c.no_table.ensures

pub returns-then-taps_ok : goal.returns-then-taps_ok
returns-then-taps_ok c =
    rw (c.in-Lagrange.is, sym c.taps_ok.ensures ∙ c.if-taps_ok.true) c.no_table-then-taps_ok.ensures

pub returns-else-taps_ok : goal.returns-else-taps_ok
returns-else-taps_ok c =
    rw (c.in-Lagrange.is, sym c.taps_ok.ensures ∙ c.if-taps_ok.false)

pub returns-in-Farrow8 : goal.returns-in-Farrow8
returns-in-Farrow8 c = rw c.in-Farrow8.is c.no_table-in-Farrow8.ensures

pub returns-in-Sinc : goal.returns-in-Sinc
returns-in-Sinc c = rw c.in-Sinc.is c.table_refusal.ensures
