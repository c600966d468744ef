-- `oscillator_arithmetic::amplitude` meets its contract: its body is the definition, step by step. Assumes nothing.
use Rattle.oscillator_arithmetic.specs.Arithmetic.{amplitude_of}
use Rattle.oscillator_arithmetic.proofs.amplitude.Goals as goal

pub returns : goal.returns
unfolding amplitude_of
returns c = rw (c.max-2.ensures, c.speed_delta-delta.ensures, c.max.ensures)

pub max-requires : goal.max-requires
max-requires c = tt

pub speed_delta-delta-requires : goal.speed_delta-delta-requires
speed_delta-delta-requires c = tt

pub max-requires-2 : goal.max-requires-2
max-requires-2 c = tt
