-- `sinc_neighbours::read_neighbours` meets its contract: both sums are made at once, or each reading by itself.
-- Assumes nothing.
use Rattle.sinc_neighbours.proofs.read_neighbours.Goals as goal

pub over-requires : goal.over-requires
over-requires c =
    ((c.found-p.ensures c.if-p.true).lies, (c.found-q.ensures c.if-q.true).lies)

pub returns-then-q : goal.returns-then-q
returns-then-q c =
    record {
      a_value = (c.found-p.ensures c.if-p.true).reads _ c.over.ensures.a_value;
      b_value =
          (c.found-q.ensures c.if-q.true).reads _ c.over.ensures.b_value;
    }
