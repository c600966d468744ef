-- `told_oversampled::readings::start` meets its contract, by whether a call was accepted. Assumes nothing.
use Rattle.std.proofs.Common.{eq-eqb, ne_eqb}
use Rattle.told_oversampled.proofs.readings.start.Goals as goal

pub returns-then-accepted-eq0 : goal.returns-then-accepted-eq0
returns-then-accepted-eq0 c = record {
  value = rw (eq-eqb _ _ c.if-accepted-eq0.true);
  result_value =
      c.well_formed.1.1.0.1;
}

pub returns-else-accepted-eq0 : goal.returns-else-accepted-eq0
returns-else-accepted-eq0 c = record {
  value = rw (ne_eqb _ _ c.if-accepted-eq0.false);
  result_value =
      c.well_formed.1.0.1;
}
