-- W8c at its end: a ring of length 8, in which only sample 0 differs, and a delay of 7. Definitions only.
use Rattle.std.specs.Prelude.{ℕ, false, List, ◌∷◌, pos, replicate, Float}
use Rattle.std.specs.Float.{fin}
use Rattle.answer.specs.declared.Answer.{Answer}
use Rattle.constants.specs.Numbers.{zero-f}
use Rattle.cubic_farrow.specs.Cubic.{cubic_at}
use Rattle.runs.specs.Runs.{Call, Reader, bare_call, opened, run}
use Rattle.aging.specs.Calls.{answered}

-- The reader with the smallest settings: its ring has 8 places.
abbrev pub smallest : Reader
smallest = opened 0 0 8

-- A run whose sample 0 is x and whose other k samples are zeros.
abbrev pub first : Float → ℕ → List Call
first x k = bare_call x zero-f ∷ replicate k (bare_call zero-f zero-f)

-- The call after them, whose sample is a zero and whose delay is 7, and what it answers.
abbrev pub next : Call
next = bare_call zero-f (fin false 7 (pos 0))

abbrev pub answered_next : List Call → Answer
answered_next cs = answered cubic_at (run smallest cs) next
