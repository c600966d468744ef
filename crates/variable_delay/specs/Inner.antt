-- The steps of a call as the code makes them: tests on a length that is computed once, and what `accept` hands to a
-- kernel. They are no part of what a reader promises, which stands in Reader.antt. Definitions only.
use Rattle.std.specs.Prelude.{ℕ, zero, suc, ◌+◌, Bool, not, ◌&&◌, [], ◌∷◌, eqb, leb, ltb, Float}
use Rattle.std.specs.Float.Ieee.{le}
use Rattle.std.specs.Float.Ieee.Scale.{finite}
use Rattle.constants.specs.Numbers.{zero-f, limit, limit-f}
use Rattle.refusal_order.specs.Order.{◌unless◌, first_of}
use Rattle.variable_delay.specs.declared.VariableDelay.{VariableDelay}
use Rattle.variable_delay.specs.declared.Accepted.{Accepted}
use Rattle.variable_delay.specs.Reader.{position_of}

-- Reader's `verdict`, from the length that `ring::length_for` gives. That is 0 if the settings are out of range, so one
-- computation serves the tests 1 and 2.
abbrev pub due_of : ℕ → Bool → Bool → ℕ → ℕ → Float → Float → ℕ
due_of needed own lent len accepted x y =
    first_of
    (1 unless (not (eqb needed 0) && own)
    ∷ 2 unless (eqb len needed && lent)
    ∷ 3 unless leb accepted limit
    ∷ 4 unless finite x
    ∷ 5 unless (finite y && le zero-f y)
    ∷ 6 unless le y limit-f
    ∷ 8 unless ltb accepted limit
    ∷ [])

-- What the kernel is handed: the number of samples accepted, with this one, and the position.
abbrev pub accepted_of : ℕ → VariableDelay → Float → Accepted
accepted_of zero d y = record { refusal = 0; count = d.accepted + 1; position = position_of d.accepted y }
accepted_of (suc k) d y = record { refusal = suc k; count = 0; position = zero-f }
