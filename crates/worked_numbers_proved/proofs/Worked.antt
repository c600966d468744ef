-- C3. P1 to P9 as 01 has them, in one table, computed from the definitions that the contracts cite. A float is given as
-- an odd whole number times a power of two. Assumes nothing.
use mathlib.Core.Path.{◌≡◌, refl}
use mathlib.Core.Bool.{false, true}
use mathlib.Core.List.{[], ◌∷◌}
use lib.IntN.{pos, negsuc}
use lib.Ieee.{fin, add, sub, mul, div, neg, le, of_int, size}
use Rattle.answer.specs.declared.Answer.TheVariants.{Sample}
use Rattle.wrapping_u64.specs.Xor.{xor_to}
use Rattle.integer_part.specs.Parts.{floor_of, fraction_of}
use Rattle.ring.specs.Length.{length_for}
use Rattle.cubic_farrow.specs.Cubic.{cubic_at}
use Rattle.xorshift.specs.Xorshift.{step_of}
use Rattle.runs.specs.Calls.{run_of}
use Rattle.worked_numbers_proved.specs.Cases.{cases, answer_to}

-- The answers are 2.5, -0.0625, 0.4375, 3.8125, 2 and 0; the integer part is -1 and the fraction 0.5.
pub worked : cases ≡ record {
  P1 = Sample (fin false 5 (negsuc 0));
  P2 = Sample (fin true 1 (negsuc 3));
  P3 = Sample (fin false 7 (negsuc 3));
  P4 = Sample (fin false 61 (negsuc 3));
  P5 = Sample (fin false 1 (pos 1));
  P6 = Sample (fin false 0 (pos 0));
  P7 = 0x200_0001 ∷ 0x47E4_CE4B_896C_DD1D ∷ 0x8_FC99_C971_2D9B ∷ [];
  P8 = (negsuc 0, fin false 1 (negsuc 0));
  P9 = 0xA076_1D64_78BD_642F;
}
unfolding answer_to run_of cubic_at length_for size floor_of fraction_of le add sub mul div neg of_int step_of xor_to
worked = refl
