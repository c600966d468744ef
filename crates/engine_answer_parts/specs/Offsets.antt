-- The offsets of a step as plain numbers, for another language. Definitions only.
use Rattle.std.specs.Prelude.{Float}
use Rattle.oscillator_ranges.specs.Constants as numbers
use Rattle.modulation_sample.specs.declared.Offset.{Offset}
use Rattle.modulation_sample.specs.declared.Offset.TheVariants.{Delay, Refused}

-- The offset of a side, 0.0 if the step is refused.
abbrev pub left_of : Offset → Float
left_of (Delay d) = d.left
left_of (Refused k) = numbers.zero

abbrev pub right_of : Offset → Float
right_of (Delay d) = d.right
right_of (Refused k) = numbers.zero
