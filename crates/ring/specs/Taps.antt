-- K2. What a tap reads in a ring of any length that has accepted `count` samples, the last of them number count - 1. A
-- plain slice of length n is a ring of length n with the count n (G3). Definitions only.
use Rattle.std.specs.Prelude.{ℕ, ◌+◌, ◌%◌, Bool, true, false, List, leb, ltb, ℤ, pos, negsuc, length, get_or, Float}
use Rattle.std.specs.Float.{nan}
use Rattle.constants.specs.Numbers.{zero-f}

-- Where a tap lies: held with its value, not yet written, ahead of the newest, or overwritten.
pub data Tap : Type 0 where
  held : Float → Tap
  unwritten ahead overwritten : Tap

abbrev pub pick : Bool → Tap → Tap → Tap
pick true a b = a
pick false a b = b

-- K2. Below 0 a tap is not yet written; from the count on it is ahead; if it lies more than the ring's length behind
-- the count it is overwritten; otherwise it is held, at its number modulo the length.
abbrev pub tap_at : List Float → ℕ → ℤ → Tap
tap_at xs count (negsuc k) = unwritten
tap_at xs count (pos k) =
    pick (ltb k count) (pick (leb count (k + length xs)) (held (get_or xs (k % length xs) nan)) overwritten) ahead

-- A tap that is not held counts as zero.
abbrev pub value_of : Tap → Float
value_of (held x) = x
value_of unwritten = zero-f
value_of ahead = zero-f
value_of overwritten = zero-f

abbrev pub tap_of : List Float → ℕ → ℤ → Float
tap_of xs count i = value_of (tap_at xs count i)
