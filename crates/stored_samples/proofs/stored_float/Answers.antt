-- `stored_samples::stored_float` meets its contract: it is the pattern of the nearest f32, which is finite. Assumes
-- nothing.
use mathlib.Core.Path.{ap, ◌∙◌}
use denote.Floats.{passes}
use lib.Ieee.{binary32, to_bits}
use lib.Ieee.Scale.{finite}
use Rattle.magnitude.proofs.Comparisons.{finite_number}
use Rattle.sample_kind.specs.declared.SampleKind.TheVariants.{Float32}
use Rattle.stored_samples.proofs.Words.{fitting, word, none}
use Rattle.stored_samples.proofs.stored_float.Goals as goal

pub float_to_bits-result : goal.float_to_bits-result
float_to_bits-result c =
    finite_number c.narrow.result
    (passes (finite c.narrow.result)
    (ap finite c.narrow.ensures
    ∙ fitting Float32 c.args.x c.fits_float.ensures c.if-fits_float.true))

pub returns-then-fits_float : goal.returns-then-fits_float
returns-then-fits_float c =
    word Float32 c.args.x c.fits_float.ensures c.if-fits_float.true
    (ap (to_bits binary32) c.narrow.ensures)

pub returns-else-fits_float : goal.returns-else-fits_float
returns-else-fits_float c = none Float32 _ c.fits_float.ensures c.if-fits_float.false
