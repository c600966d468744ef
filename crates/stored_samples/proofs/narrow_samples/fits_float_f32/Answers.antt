-- `stored_samples::narrow_samples::fits_float_f32` meets its contract: an f32 is its own nearest f32. Assumes nothing.
use mathlib.Core.Path.{sym, ap, ◌∙◌}
use denote.Floats.{passes}
use lib.Ieee.{binary32, fits}
use lib.Ieee.Scale.{finite}
use Rattle.rounding.proofs.RoundsToItself.{narrowed-own}
use Rattle.stored_samples.proofs.narrow_samples.fits_float_f32.Goals as goal

pub returns : goal.returns
returns c =
    let x = c.args.x in
    c.is_finite_f32.ensures ∙ ap finite (sym (narrowed-own x (passes (fits binary32 x) c.well_formed.0.1)))
