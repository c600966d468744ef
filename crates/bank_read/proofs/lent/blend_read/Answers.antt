-- `bank_read::lent::blend_read` meets its contract, by its three cases. Assumes nothing.
use Rattle.bank_read.proofs.QualityTables.{both_read}
use Rattle.bank_read.proofs.lent.blend_read.Goals as goal

pub returns-then-which-eq1 : goal.returns-then-which-eq1
returns-then-which-eq1 c = rw c.if-which-eq1.true c.table_read.ensures

pub returns-then-which-eq0 : goal.returns-then-which-eq0
returns-then-which-eq0 c = rw c.if-which-eq0.true c.table_read-then-which-eq0.ensures

pub returns : goal.returns
returns c =
    rw (c.both_read-read.ensures.b_value, c.both_read-read.ensures.a_value)
    (both_read _ _ _ _ c.if-which-eq1.false c.if-which-eq0.false)
