-- `stored_samples::stored24` meets its contract, by the law for any format and width. Assumes nothing.
use mathlib.Core.Path.{◌≡◌}
use mathlib.Core.Bool.{not}
use Prim.Native.Nat.{◌%◌, ◌^◌}
use denote.Floats.{passes}
use lib.Dec.{T, lit≤}
use lib.Ieee.{binary64, fits, is_nan, to_bits, of_bits}
use Rattle.sample_kind.specs.declared.SampleKind.TheVariants.{Pcm24}
use Rattle.stored_samples.specs.Stored.{digits_in}
use Rattle.stored_samples.proofs.Digits.{stored}
use Rattle.stored_samples.proofs.Pattern.{shifted}
use Rattle.stored_samples.proofs.Words.{fitting, word, none}
use Rattle.stored_samples.proofs.stored24.Goals as goal
use Rattle.stored_samples.proofs.stored24.Goals.{Then-fits24}

law : (c : Then-fits24) → let x = c.args.x in
    T (not (is_nan (shifted binary64 22 x))) × (to_bits binary64 (shifted binary64 22 x) % 2 ^ 24 ≡ digits_in Pcm24 x)
law c =
    let x = c.args.x in
    stored binary64 22 (lit≤ tt) x (passes (fits binary64 x) c.well_formed.0.1)
    (fitting Pcm24 x c.fits24.ensures c.if-fits24.true)

pub float_to_bits-result : goal.float_to_bits-result
unfolding of_bits
float_to_bits-result c = (law c).0

pub returns-then-fits24 : goal.returns-then-fits24
unfolding of_bits
returns-then-fits24 c = word Pcm24 _ c.fits24.ensures c.if-fits24.true (law c).1

pub returns-else-fits24 : goal.returns-else-fits24
returns-else-fits24 c = none Pcm24 _ c.fits24.ensures c.if-fits24.false
