-- `polynomials::sine_near` meets its contract: its constants are the rounded reciprocals and its steps the
-- definition's, by computing. Assumes nothing.
use mathlib.Core.Path.{refl}
use lib.Ieee.{round, of_bits}
use Rattle.polynomials.specs.Horner.{sine_near}
use Rattle.polynomials.proofs.sine_near.Goals as goal

pub returns : goal.returns
unfolding sine_near round of_bits
returns c = refl
