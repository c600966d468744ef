-- W4. What a desk is answered that asks for a set or gives one up, and what becomes of the rates and the marks. The
-- number of floats that are lent for the slots is an argument. Definitions only.
use Rattle.std.specs.Prelude.{ℕ, zero, suc, Bool, cond, ◌||◌, List, [], ◌∷◌, length, get_or, set, replicate, Float}
use Rattle.refusal_order.specs.Order.{Test, ◌unless◌, first_of}
use Rattle.sinc_settings.specs.Ranges.{rate_ok}
use Rattle.bessel.specs.declared.Mode.{Mode}
use Rattle.room_marks.specs.declared.Desk.{Desk}
use Rattle.room_marks.specs.Marks.{built_by, shared_by, left_by}
use Rattle.room_marks.specs.Slots.{some, free, has_set, own_set, room_ok}
use Rattle.room_marks.specs.Asking.{lengths_agree, set_slot, free_slot, own_slot}
use Rattle.room_grants.specs.declared.Place.{Place}
use Rattle.room_grants.specs.declared.Place.TheVariants.{Shared, Anew, Refused}

-- ---- opening: 2 unless the lengths agree; then every slot is free
abbrev pub open_tests : List Float → List ℕ → ℕ → List Test
open_tests rates marks floats = 2 unless lengths_agree rates marks floats ∷ []

unfoldable pub open_verdict : List Float → List ℕ → ℕ → ℕ
open_verdict rates marks floats = first_of (open_tests rates marks floats)

-- A list of which every element is x, if nothing is refused.
abbrev pub cleared_to : {A : Type 0} → ℕ → A → List A → List A
cleared_to zero x xs = replicate (length xs) x
cleared_to (suc k) x xs = xs

-- ---- asking: 1 a rate outside 1 to 2, 2 lengths that do not agree, 3 a room out of range, 16 every slot is held and
-- none has this rate and mode
abbrev pub ask_tests : Float → Mode → List Float → List ℕ → ℕ → List Test
ask_tests rate mode rates marks floats =
    1 unless rate_ok rate
    ∷ 2 unless lengths_agree rates marks floats
    ∷ 3 unless room_ok rates marks
    ∷ 16 unless (some (has_set rate mode) rates marks || some free rates marks)
    ∷ []

unfoldable pub ask_verdict : Float → Mode → List Float → List ℕ → ℕ → ℕ
ask_verdict rate mode rates marks floats = first_of (ask_tests rate mode rates marks floats)

-- W4b, W4c. If the set is there the desk shares it; otherwise the first free slot is built anew.
abbrev pub place_by : ℕ → Bool → ℕ → ℕ → Place
place_by zero there set free = cond there (Shared set) (Anew free)
place_by (suc n) there set free = Refused (suc n)

unfoldable pub asked_place : Float → Mode → List Float → List ℕ → ℕ → Place
asked_place rate mode rates marks floats =
    place_by (ask_verdict rate mode rates marks floats) (some (has_set rate mode) rates marks)
    (set_slot rate mode rates marks) (free_slot rates marks)

-- What an answer leaves of the rates and the marks.
abbrev pub rates_by : Place → Float → List Float → List Float
rates_by (Shared k) rate rates = rates
rates_by (Anew k) rate rates = set rates k rate
rates_by (Refused n) rate rates = rates

abbrev pub marks_by : Place → Desk → Mode → List ℕ → List ℕ
marks_by (Shared k) desk mode marks = set marks k (shared_by desk (get_or marks k 0))
marks_by (Anew k) desk mode marks = set marks k (built_by desk mode)
marks_by (Refused n) desk mode marks = marks

-- ---- giving up: 1, 2 and 3 as before, 17 a set that this desk does not hold
abbrev pub give_up_tests : Desk → Float → Mode → List Float → List ℕ → ℕ → List Test
give_up_tests desk rate mode rates marks floats =
    1 unless rate_ok rate
    ∷ 2 unless lengths_agree rates marks floats
    ∷ 3 unless room_ok rates marks
    ∷ 17 unless some (own_set desk rate mode) rates marks
    ∷ []

unfoldable pub give_up_verdict : Desk → Float → Mode → List Float → List ℕ → ℕ → ℕ
give_up_verdict desk rate mode rates marks floats = first_of (give_up_tests desk rate mode rates marks floats)

-- W4d. The slot's mark alone changes.
abbrev pub marks_without : ℕ → Desk → ℕ → List ℕ → List ℕ
marks_without zero desk k marks = set marks k (left_by desk (get_or marks k 0))
marks_without (suc n) desk k marks = marks

unfoldable pub given_up : Desk → Float → Mode → List Float → List ℕ → ℕ → List ℕ
given_up desk rate mode rates marks floats =
    marks_without (give_up_verdict desk rate mode rates marks floats) desk (own_slot desk rate mode rates marks) marks

-- ---- the first three tests, which asking and giving up share
unfoldable pub room_verdict : Float → List Float → List ℕ → ℕ → ℕ
room_verdict rate rates marks floats =
    first_of
    (1 unless rate_ok rate ∷ 2 unless lengths_agree rates marks floats ∷ 3 unless room_ok rates marks ∷ [])
