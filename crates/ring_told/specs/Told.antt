-- W7a, W7b. Which case a tap is: the enum's case for each case of ring's definition, and what each counts as in
-- arithmetic. Definitions only.
use Rattle.std.specs.Prelude.{Float}
use Rattle.constants.specs.Numbers.{zero-f}
use Rattle.ring.specs.Taps as ring
use Rattle.ring_told.specs.declared.Tap.{Tap}
use Rattle.ring_told.specs.declared.Tap.TheVariants.{Held, Unwritten, Ahead, Overwritten}

abbrev pub told_of : ring.Tap → Tap Float
told_of (ring.held x) = Held x
told_of ring.unwritten = Unwritten
told_of ring.ahead = Ahead
told_of ring.overwritten = Overwritten

-- The same for samples of single precision, whose values are floats too.
abbrev pub told_f32_of : ring.Tap → Tap Float
told_f32_of = told_of

-- The value of each case. A tap that is not held counts as zero.
abbrev pub value_of : Tap Float → Float
value_of (Held x) = x
value_of Unwritten = zero-f
value_of Ahead = zero-f
value_of Overwritten = zero-f

abbrev pub value_f32_of : Tap Float → Float
value_f32_of = value_of
