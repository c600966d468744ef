-- K1. Opening a reader over a lent ring, and resetting one. Both set the ring and the count to zero. Definitions only.
use Rattle.std.specs.Prelude.{ℕ, zero, suc, List, [], ◌∷◌, eqb, leb, length, Float}
use Rattle.constants.specs.Numbers.{limit}
use Rattle.refusal_order.specs.Order.{◌unless◌, first_of}
use Rattle.ring.specs.Length.{settings_ok, length_for, zeros}
use Rattle.variable_delay.specs.declared.VariableDelay.{VariableDelay}
use Rattle.variable_delay.specs.declared.Opened.{Opened}
use Rattle.variable_delay.specs.declared.Opened.TheVariants.{Reader, Refused}

-- The state of a reader that has accepted nothing.
abbrev pub fresh : ℕ → ℕ → VariableDelay
fresh maximum margin = record { maximum = maximum; margin = margin; accepted = 0 }

-- N1 to N3. The number of the refusal of a reset, 0 for none. A reader that is full may be reset.
abbrev pub reset_verdict : VariableDelay → ℕ → ℕ
reset_verdict d len =
    first_of
    (1 unless settings_ok d.maximum d.margin
    ∷ 2 unless eqb len (length_for d.maximum d.margin)
    ∷ 3 unless leb d.accepted limit
    ∷ [])

-- D1c. The reader that is left for each number, and its ring: a refusal leaves every element as it was.
abbrev pub opened_by : ℕ → VariableDelay → Opened
opened_by zero d = Reader (fresh d.maximum d.margin)
opened_by (suc k) d = Refused (suc k)

abbrev pub cleared_by : ℕ → List Float → List Float
cleared_by zero xs = zeros (length xs)
cleared_by (suc k) xs = xs

abbrev pub reset_of : VariableDelay → ℕ → Opened
reset_of d len = opened_by (reset_verdict d len) d

abbrev pub ring_reset : VariableDelay → List Float → List Float
ring_reset d xs = cleared_by (reset_verdict d (length xs)) xs

-- Opening is the reset of a state that has accepted nothing, so that only 1 and 2 are possible.
abbrev pub opened_of : ℕ → ℕ → ℕ → Opened
opened_of maximum margin len = reset_of (fresh maximum margin) len

abbrev pub ring_opened : ℕ → ℕ → List Float → List Float
ring_opened maximum margin xs = ring_reset (fresh maximum margin) xs

-- C4. 01's number for each case, 0 for a reader.
abbrev pub number_of : Opened → ℕ
number_of (Reader d) = 0
number_of (Refused k) = k
