-- `stored_samples::narrow_samples::stored16_f32` meets its contract, by the law for any format and width. Assumes
-- nothing.
use mathlib.Core.Path.{◌≡◌}
use mathlib.Core.Bool.{not}
use Prim.Native.Nat.{◌%◌, ◌^◌}
use denote.Floats.{passes}
use lib.Dec.{T, lit≤}
use lib.Ieee.{binary32, fits, is_nan, to_bits, of_bits}
use Rattle.sample_kind.specs.declared.SampleKind.TheVariants.{Pcm16}
use Rattle.stored_samples.specs.Stored.{digits_in}
use Rattle.stored_samples.proofs.Digits.{stored}
use Rattle.stored_samples.proofs.Pattern.{shifted}
use Rattle.stored_samples.proofs.Words.{fitting, word, none}
use Rattle.stored_samples.proofs.narrow_samples.stored16_f32.Goals as goal
use Rattle.stored_samples.proofs.narrow_samples.stored16_f32.Goals.{Then-fits16_f32}

law : (c : Then-fits16_f32) → let x = c.args.x in
    T (not (is_nan (shifted binary32 14 x))) × (to_bits binary32 (shifted binary32 14 x) % 2 ^ 16 ≡ digits_in Pcm16 x)
law c =
    let x = c.args.x in
    stored binary32 14 (lit≤ tt) x (passes (fits binary32 x) c.well_formed.0.1)
    (fitting Pcm16 x c.fits16_f32.ensures c.if-fits16_f32.true)

pub float_to_bits-result : goal.float_to_bits-result
unfolding of_bits
float_to_bits-result c = (law c).0

pub returns-then-fits16_f32 : goal.returns-then-fits16_f32
unfolding of_bits
returns-then-fits16_f32 c = word Pcm16 _ c.fits16_f32.ensures c.if-fits16_f32.true (law c).1

pub returns-else-fits16_f32 : goal.returns-else-fits16_f32
returns-else-fits16_f32 c = none Pcm16 _ c.fits16_f32.ensures c.if-fits16_f32.false
