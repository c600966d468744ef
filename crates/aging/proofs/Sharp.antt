-- W8c is sharp. The samples 0 of two runs are 1 and 2, all others are zeros, and the ring has 8 places. The call that
-- brings the 7th sample after them still answers 1 and 2, the one that brings the 8th answers the same. Assumes
-- nothing.
use mathlib.Core.Path.{◌≡◌, refl}
use Prim.Native.Nat.{◌+◌}
use mathlib.Core.Bool.{false}
use lib.IntN.{pos}
use lib.ListN.{length}
use lib.Ieee.{fin, add, sub, mul, div, le, of_int, size}
use Rattle.answer.specs.declared.Answer.TheVariants.{Sample}
use Rattle.ring.specs.Length.{length_for}
use Rattle.integer_part.specs.Parts.{floor_of, fraction_of}
use Rattle.cubic_farrow.specs.Cubic.{cubic_at}
use Rattle.runs.specs.Calls.{run_of, accepted_of}
use Rattle.aging.specs.Calls.{up_to}
use Rattle.aging.specs.Sharp.{smallest, first, next, answered_next}

-- With the 7th stored, `Aged` lacks one: 0 + 8 is not below 8.
pub one-short : length (up_to smallest (first (fin false 1 (pos 0)) 6) next) ≡ 0 + 8
unfolding accepted_of length_for size le
one-short = refl

pub seventh-one : answered_next (first (fin false 1 (pos 0)) 6) ≡ Sample (fin false 1 (pos 0))
unfolding run_of cubic_at length_for size floor_of fraction_of le add sub mul div of_int
seventh-one = refl

pub seventh-other : answered_next (first (fin false 1 (pos 1)) 6) ≡ Sample (fin false 1 (pos 1))
unfolding run_of cubic_at length_for size floor_of fraction_of le add sub mul div of_int
seventh-other = refl

pub eighth : answered_next (first (fin false 1 (pos 0)) 7) ≡ answered_next (first (fin false 1 (pos 1)) 7)
unfolding run_of cubic_at length_for size floor_of fraction_of le add sub mul div of_int
eighth = refl
