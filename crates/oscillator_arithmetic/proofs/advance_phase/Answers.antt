-- `oscillator_arithmetic::advance_phase` meets its contract: its body is the definition, step by step. Assumes nothing.
use Rattle.oscillator_arithmetic.specs.Arithmetic.{advance_phase}
use Rattle.oscillator_arithmetic.proofs.advance_phase.Goals as goal

pub returns : goal.returns
unfolding advance_phase
returns c = rw (c.rem_euclid.ensures, c.max.ensures)

pub max-requires : goal.max-requires
max-requires c = tt

pub rem_euclid-requires : goal.rem_euclid-requires
rem_euclid-requires c = tt
