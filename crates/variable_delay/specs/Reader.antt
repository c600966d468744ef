-- A delay reader, defined once for all kernels, over what the kernel reads and what it needs of its own settings (01,
-- 'Reading a ring'). A kernel without settings needs nothing. Samples are floats of either width. Definitions only.
use Rattle.std.specs.Prelude.{ℕ, zero, suc, ◌+◌, ◌%◌, Bool, true, ◌&&◌, List, [], ◌∷◌, eqb, leb, ltb, pos, length, set}
use Rattle.std.specs.Prelude.{Float}
use Rattle.std.specs.Float.{binary64}
use Rattle.std.specs.Float.Ieee.{sub, le, of_int}
use Rattle.std.specs.Float.Ieee.Scale.{finite}
use Rattle.constants.specs.Numbers.{zero-f, limit, limit-f}
use Rattle.refusal_order.specs.Order.{◌unless◌, first_of}
use Rattle.answer.specs.Answers.{answer_of}
use Rattle.ring.specs.Length.{settings_ok, length_for}
use Rattle.variable_delay.specs.declared.VariableDelay.{VariableDelay}
use Rattle.variable_delay.specs.declared.Processed.{Processed}

-- What a kernel reads from: the ring, the number of samples accepted (the newest included), and the position.
abbrev pub Reading : Type 0
Reading = List Float → ℕ → Float → Float

-- N1 to N6, N8. The number of the refusal, 0 for none. `own` says that the kernel's own settings are in range, `lent`
-- that the table lent to it has its length.
abbrev pub verdict : Bool → Bool → VariableDelay → ℕ → Float → Float → ℕ
verdict own lent d len x y =
    first_of
    (1 unless (settings_ok d.maximum d.margin && own)
    ∷ 2 unless (eqb len (length_for d.maximum d.margin) && lent)
    ∷ 3 unless leb d.accepted limit
    ∷ 4 unless finite x
    ∷ 5 unless (finite y && le zero-f y)
    ∷ 6 unless le y limit-f
    ∷ 8 unless ltb d.accepted limit
    ∷ [])

-- K1. Accepted sample i goes to place i modulo the length.
abbrev pub stored : ℕ → List Float → Float → List Float
stored i xs x = set xs (i % length xs) x

-- K1. The position is i minus the delay, rounded once.
abbrev pub position_of : ℕ → Float → Float
position_of i y = sub binary64 (of_int binary64 (pos i)) y

-- D1c. The ring and the state after a call: a refusal changes neither.
abbrev pub ring_after : ℕ → VariableDelay → List Float → Float → List Float
ring_after zero d xs x = stored d.accepted xs x
ring_after (suc k) d xs x = xs

abbrev pub state_after : ℕ → VariableDelay → VariableDelay
state_after zero d = record { maximum = d.maximum; margin = d.margin; accepted = d.accepted + 1 }
state_after (suc k) d = d

-- A call is refused and leaves the state as it was, or it stores the sample and then reads.
abbrev pub processed_by : Reading → ℕ → VariableDelay → List Float → Float → Float → Processed
processed_by read v d xs x y = record {
  state = state_after v d;
  answer = answer_of v (read (stored d.accepted xs x) (d.accepted + 1) (position_of d.accepted y));
}

-- A reader whose kernel has no settings of its own.
abbrev pub processed : Reading → VariableDelay → List Float → Float → Float → Processed
processed read d xs x y = processed_by read (verdict true true d (length xs) x y) d xs x y
