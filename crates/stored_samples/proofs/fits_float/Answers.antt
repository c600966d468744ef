-- `stored_samples::fits_float` meets its contract, by the law of `Floats`. Assumes nothing.
use mathlib.Core.Path.{◌∙◌}
use lib.Ieee.{neg, of_bits}
use Rattle.stored_samples.proofs.Floats.{in-range}
use Rattle.stored_samples.proofs.fits_float.Goals as goal

pub returns : goal.returns
unfolding neg of_bits
returns c = c.both.ensures ∙ in-range c.args.x
