-- `stored_samples::fits16` meets its contract, by the law for either width. Assumes nothing.
use mathlib.Core.Path.{◌∙◌}
use lib.Ieee.{neg, of_bits}
use Rattle.stored_samples.proofs.Ranges.{in-range}
use Rattle.stored_samples.proofs.fits16.Goals as goal

pub returns : goal.returns
unfolding neg of_bits
returns c = c.both.ensures ∙ in-range 14 c.args.x
