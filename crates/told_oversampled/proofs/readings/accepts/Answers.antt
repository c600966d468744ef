-- `told_oversampled::readings::accepts` meets its contract: it tests what the filter gives. Assumes nothing.
use Rattle.told_oversampled.proofs.readings.accepts.Goals as goal

pub returns : goal.returns
returns c =
    rw (c.is_finite.ensures, c.output.ensures, c.nearest_u64_to_f64-rate.ensures)
