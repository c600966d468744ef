-- `stored_samples::narrow_samples::stored_float_f32` meets its contract: an f32 is its own nearest f32.
-- Assumes nothing.
use mathlib.Core.Path.{sym, ap, ◌∙◌}
use denote.Floats.{passes}
use lib.Dec.{T}
use lib.Ieee.{binary32, fits, to_bits}
use lib.Ieee.Scale.{finite}
use Rattle.magnitude.proofs.Comparisons.{finite_number}
use Rattle.rounding.proofs.RoundsToItself.{narrowed-own}
use Rattle.sample_kind.specs.declared.SampleKind.TheVariants.{Float32}
use Rattle.stored_samples.proofs.Words.{fitting, word, none}
use Rattle.stored_samples.proofs.narrow_samples.stored_float_f32.Goals as goal
use Rattle.stored_samples.proofs.narrow_samples.stored_float_f32.Goals.{Start}

held : (c : Start) → T (fits binary32 c.args.x)
held c = passes (fits binary32 c.args.x) c.well_formed.0.1

pub float_to_bits-result : goal.float_to_bits-result
float_to_bits-result c =
    let x = c.args.x in
    let own = sym (narrowed-own x (held (goal.at.float_to_bits-result c).Start)) in
    finite_number x
    (passes (finite x) (ap finite own ∙ fitting Float32 x c.fits_float_f32.ensures c.if-fits_float_f32.true))

pub returns-then-fits_float_f32 : goal.returns-then-fits_float_f32
returns-then-fits_float_f32 c =
    let x = c.args.x in
    let own = sym (narrowed-own x (held (goal.at.returns-then-fits_float_f32 c).Start)) in
    word Float32 x c.fits_float_f32.ensures c.if-fits_float_f32.true (ap (to_bits binary32) own)

pub returns-else-fits_float_f32 : goal.returns-else-fits_float_f32
returns-else-fits_float_f32 c = none Float32 _ c.fits_float_f32.ensures c.if-fits_float_f32.false
