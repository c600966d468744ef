-- `polynomials::cosine_near` meets its contract: its constants are the rounded reciprocals and its steps the
-- definition's, by computing. Assumes nothing.
use mathlib.Core.Path.{refl}
use lib.Ieee.{round, of_bits}
use Rattle.polynomials.specs.Horner.{cosine_near}
use Rattle.polynomials.proofs.cosine_near.Goals as goal

pub returns : goal.returns
unfolding cosine_near round of_bits
returns c = refl
