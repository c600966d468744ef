-- C3. The cases of 01's 'Worked numbers' that are marked P. Definitions only.
use Rattle.std.specs.Prelude.{ℕ, zero, suc, ◌/◌, ◌^◌, true, false, List, [], ◌∷◌, ◌++◌, ℤ, pos, negsuc, Float}
use Rattle.std.specs.Float.{fin, binary64}
use Rattle.std.specs.Float.Ieee.{of_int}
use Rattle.answer.specs.declared.Answer.{Answer}
use Rattle.integer_part.specs.Parts.{floor_of, fraction_of}
use Rattle.variable_delay.specs.Reader.{processed}
use Rattle.cubic_farrow.specs.Cubic.{cubic_at}
use Rattle.xorshift.specs.Xorshift.{step_of, value_of}
use Rattle.xorshift.specs.Seeds.{flutter_seed_of}
use Rattle.runs.specs.Runs.{Call, bare_call, opened, run}

-- The number n as an f64.
abbrev pub whole : ℕ → Float
whole n = of_int binary64 (pos n)

-- The calls with the inputs 1 to n, all at one delay.
abbrev pub up_to : ℕ → Float → List Call
up_to zero delay = []
up_to (suc n) delay = up_to n delay ++ (bare_call (whole (suc n)) delay ∷ [])

-- What the cubic f64 reader over a ring of 8 answers to the input n + 1, after the inputs 1 to n since opening, all at
-- one delay.
unfoldable pub answer_to : ℕ → Float → Answer
answer_to n delay =
    let r = run (opened 0 0 8) (up_to n delay) in (processed cubic_at r.state r.ring (whole (suc n)) delay).answer

pub record Nine : Type 0 where
  pub P1 : Answer
  pub P2 : Answer
  pub P3 : Answer
  pub P4 : Answer
  pub P5 : Answer
  pub P6 : Answer
  -- The generator's next state, its value, and the value shifted by 11.
  pub P7 : List ℕ
  -- The integer part and the fraction of a position.
  pub P8 : ℤ × Float
  -- The flutter seed.
  pub P9 : ℕ

-- The delays are 1.5, 0.5, 7 and 8, and the position is -0.5.
abbrev pub cases : Nine
cases = record {
  P1 = answer_to 3 (fin false 3 (negsuc 0));
  P2 = answer_to 0 (fin false 3 (negsuc 0));
  P3 = answer_to 1 (fin false 3 (negsuc 0));
  P4 = answer_to 3 (fin false 1 (negsuc 0));
  P5 = answer_to 8 (fin false 7 (pos 0));
  P6 = answer_to 8 (fin false 1 (pos 3));
  P7 = step_of 1 ∷ value_of (step_of 1) ∷ value_of (step_of 1) / 2 ^ 11 ∷ [];
  P8 = (floor_of (fin true 1 (negsuc 0)), fraction_of (fin true 1 (negsuc 0)));
  P9 = flutter_seed_of 0xD1B5_4A32_D192_ED03;
}
