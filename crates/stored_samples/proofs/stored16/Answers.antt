-- `stored_samples::stored16` meets its contract, by the law for any format and width. Assumes nothing.
use mathlib.Core.Path.{◌≡◌}
use mathlib.Core.Bool.{not}
use Prim.Native.Nat.{◌%◌, ◌^◌}
use denote.Floats.{passes}
use lib.Dec.{T, lit≤}
use lib.Ieee.{binary64, fits, is_nan, to_bits, of_bits}
use Rattle.sample_kind.specs.declared.SampleKind.TheVariants.{Pcm16}
use Rattle.stored_samples.specs.Stored.{digits_in}
use Rattle.stored_samples.proofs.Digits.{stored}
use Rattle.stored_samples.proofs.Pattern.{shifted}
use Rattle.stored_samples.proofs.Words.{fitting, word, none}
use Rattle.stored_samples.proofs.stored16.Goals as goal
use Rattle.stored_samples.proofs.stored16.Goals.{Then-fits16}

law : (c : Then-fits16) → let x = c.args.x in
    T (not (is_nan (shifted binary64 14 x))) × (to_bits binary64 (shifted binary64 14 x) % 2 ^ 16 ≡ digits_in Pcm16 x)
law c =
    let x = c.args.x in
    stored binary64 14 (lit≤ tt) x (passes (fits binary64 x) c.well_formed.0.1)
    (fitting Pcm16 x c.fits16.ensures c.if-fits16.true)

pub float_to_bits-result : goal.float_to_bits-result
unfolding of_bits
float_to_bits-result c = (law c).0

pub returns-then-fits16 : goal.returns-then-fits16
unfolding of_bits
returns-then-fits16 c = word Pcm16 _ c.fits16.ensures c.if-fits16.true (law c).1

pub returns-else-fits16 : goal.returns-else-fits16
returns-else-fits16 c = none Pcm16 _ c.fits16.ensures c.if-fits16.false
