-- `oscillator_arithmetic::speed_delta` meets its contract: its body is the definition, step by step. Assumes nothing.
use Rattle.oscillator_arithmetic.specs.Arithmetic.{speed_delta}
use Rattle.oscillator_arithmetic.proofs.speed_delta.Goals as goal

pub returns : goal.returns
unfolding speed_delta
returns c = rw c.power_of_two.ensures

pub power_of_two-requires : goal.power_of_two-requires
power_of_two-requires c = tt
