-- `polynomials::power_near` meets its contract: its constants are the rounded reciprocals and its steps the
-- definition's, by computing. Assumes nothing.
use mathlib.Core.Path.{refl}
use lib.Ieee.{round, of_bits}
use Rattle.polynomials.specs.Horner.{power_near}
use Rattle.polynomials.proofs.power_near.Goals as goal

pub returns : goal.returns
unfolding power_near round of_bits
returns c = refl
