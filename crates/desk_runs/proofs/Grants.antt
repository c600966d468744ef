-- W4g, W4h. What a desk can see of the other: an ask is granted, or refused by 1, 2, 3 or 16, and in a furnished room
-- by 1 or 16 alone. Assumes nothing.
use mathlib.Core.Path.{◌≡◌, refl, ◌∙◌}
use mathlib.Core.Bool.{Bool, true, false, cond, ◌||◌}
use Prim.Native.Nat.{ℕ, zero, suc}
use lib.ListN.{length}
use lib.Ieee.{Float}
use Rattle.sinc_settings.specs.Ranges.{rate_ok}
use Rattle.bessel.specs.declared.Mode.{Mode}
use Rattle.room_marks.specs.Slots.{some, free, has_set}
use Rattle.room_marks.specs.Asking.{set_slot, free_slot}
use Rattle.room_grants.specs.Grants.{ask_verdict, place_by, asked_place}
use Rattle.set_room.specs.Room.{Room, answer_by, grant_of, number_of}
use Rattle.room_runs.specs.Turns.{Furnished}

-- The number of an answer is the number of the first test that fails.
number-of : (v : ℕ) (b : Bool) (s f : ℕ) → number_of (answer_by (place_by v b s f)) ≡ v
number-of zero true s f = refl
number-of zero false s f = refl
number-of (suc n) b s f = refl

pub ask-number : (rate : Float) (mode : Mode) (r : Room)
    → number_of (grant_of rate mode r) ≡ ask_verdict rate mode r.rates r.marks (length r.slots)
unfolding asked_place
ask-number rate mode r =
    number-of (ask_verdict rate mode r.rates r.marks (length r.slots))
    (some (has_set rate mode) r.rates r.marks) (set_slot rate mode r.rates r.marks)
    (free_slot r.rates r.marks)

-- 1 for a rate out of range, then 16 if every slot is held and none has this rate and mode.
pub grants : (rate : Float) (mode : Mode) (r : Room) → Furnished r
    → number_of (grant_of rate mode r)
    ≡ cond (rate_ok rate) (cond
    (some (has_set rate mode) r.rates r.marks || some free r.rates r.marks) 0 16) 1
unfolding ask_verdict
grants rate mode r f = ask-number rate mode r ∙ rw (f.agree, f.whole)
