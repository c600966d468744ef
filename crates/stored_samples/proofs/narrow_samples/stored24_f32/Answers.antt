-- `stored_samples::narrow_samples::stored24_f32` meets its contract, by the law for any format and width: an f32 that
-- fits is a number, and also an f64. Assumes nothing.
use mathlib.Core.Path.{◌≡◌}
use mathlib.Core.Bool.{not}
use Prim.Native.Nat.{◌%◌, ◌^◌}
use denote.Floats.{passes}
use lib.Dec.{T, lit≤}
use lib.Ieee.Fits.{and_i, fits_widens}
use lib.Ieee.{binary32, binary64, fits, is_nan, to_bits, of_bits}
use Rattle.sample_kind.specs.declared.SampleKind.TheVariants.{Pcm24}
use Rattle.stored_samples.specs.Stored.{digits_in}
use Rattle.stored_samples.proofs.Digits.{stored}
use Rattle.stored_samples.proofs.Narrow.{fits-number}
use Rattle.stored_samples.proofs.Pattern.{shifted}
use Rattle.stored_samples.proofs.Words.{fitting, word, none}
use Rattle.stored_samples.proofs.narrow_samples.stored24_f32.Goals as goal
use Rattle.stored_samples.proofs.narrow_samples.stored24_f32.Goals.{Then-fits24_f32}

law : (c : Then-fits24_f32) → let x = c.args.x in
    T (not (is_nan (shifted binary64 22 x))) × (to_bits binary64 (shifted binary64 22 x) % 2 ^ 24 ≡ digits_in Pcm24 x)
law c =
    let x = c.args.x in
    stored binary64 22 (lit≤ tt) x (fits_widens x (passes (fits binary32 x) c.well_formed.0.1))
    (fitting Pcm24 x c.fits24_f32.ensures c.if-fits24_f32.true)

pub float_to_float-result : goal.float_to_float-result
float_to_float-result c =
    let x = c.args.x in
    and_i (fits binary64 x) (not (is_nan x))
    (fits_widens x (passes (fits binary32 x) c.well_formed.0.1))
    (fits-number 24 x (fitting Pcm24 x c.fits24_f32.ensures c.if-fits24_f32.true))

pub float_to_bits-result : goal.float_to_bits-result
unfolding of_bits
float_to_bits-result c = (law (goal.at.float_to_bits-result c).Then-fits24_f32).0

pub returns-then-fits24_f32 : goal.returns-then-fits24_f32
unfolding of_bits
returns-then-fits24_f32 c = word Pcm24 _ c.fits24_f32.ensures c.if-fits24_f32.true
    (law (goal.at.returns-then-fits24_f32 c).Then-fits24_f32).1

pub returns-else-fits24_f32 : goal.returns-else-fits24_f32
returns-else-fits24_f32 c = none Pcm24 _ c.fits24_f32.ensures c.if-fits24_f32.false
