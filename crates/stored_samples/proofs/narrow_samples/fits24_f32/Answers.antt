-- `stored_samples::narrow_samples::fits24_f32` meets its contract: no f32 lies between the end for an f64 and its own.
-- Assumes nothing.
use mathlib.Core.Path.{◌∙◌}
use denote.Floats.{passes}
use lib.Ieee.{binary32, neg, of_bits, fits}
use Rattle.stored_samples.proofs.Narrow.{in-narrow}
use Rattle.stored_samples.proofs.narrow_samples.fits24_f32.Goals as goal

pub returns : goal.returns
unfolding neg of_bits
returns c =
    let x = c.args.x in
    c.both.ensures ∙ in-narrow x (passes (fits binary32 x) c.well_formed.0.1)
