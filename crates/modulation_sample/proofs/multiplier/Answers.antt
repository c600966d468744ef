-- `modulation_sample::multiplier` meets its contract: its body is the definition, step by step. Assumes nothing.
use Rattle.modulation_sample.specs.Sample.{multiplier_of}
use Rattle.modulation_sample.proofs.multiplier.Goals as goal

pub returns : goal.returns
unfolding multiplier_of
returns c = rw (c.power_of_two.ensures, c.clamp-drift.ensures)
