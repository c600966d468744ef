-- `bank_read::lent::table_in` meets its contract. Assumes nothing.
use Rattle.bank_read.proofs.lent.table_in.Goals as goal

pub returns : goal.returns
returns c = rw (c.chosen.ensures, c.set_at-set.ensures)
