-- `bank_read::lent::both_read` meets its contract: the parts that `chosen` hands back are the quality's tables,
-- each of its own length. Assumes nothing.
use Rattle.bank_read.proofs.QualityTables.{table_is}
use Rattle.bank_read.proofs.lent.both_read.Goals as goal

pub returns : goal.returns
returns c =
    let a = c.args in record {
      a_value = rw (c.read_pair.ensures.a_value, c.phases-phases.ensures, c.taps-taps.ensures, c.chosen-a.ensures)
          (table_is a.source.now a.count a.position c.requires.2 a.quality a.safe.now c.requires.0);
      b_value = rw (c.read_pair.ensures.b_value, c.phases-phases.ensures, c.taps-taps.ensures, c.chosen-b.ensures)
          (table_is a.source.now a.count a.position c.requires.2 a.quality a.tighter.now c.requires.1);
    }
