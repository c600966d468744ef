-- W4g. One turn: a desk that asks or gives up holds afterwards what it would hold alone, and the other desk's turn
-- changes nothing of what it holds. Assumes nothing.
use mathlib.Core.Path.{◌≡◌, refl, ◌∙◌, ap}
use mathlib.Core.Bool.{Bool, true, not, ◌&&◌, ◌||◌}
use Prim.Native.Nat.{ℕ, zero, suc, ◌<◌}
use native.Mathlib.Omega.{arith}
use lib.ListN.{length, get_or}
use lib.Ieee.{Float, nan, binary64, fits}
use Rattle.sinc_settings.specs.Ranges.{rate_ok}
use Rattle.bessel.specs.declared.Mode.{Mode}
use Rattle.room_marks.specs.declared.Desk.{Desk}
use Rattle.room_marks.specs.Marks.{other_desk}
use Rattle.room_marks.specs.Slots.{some, first_slot, has_set, own_set}
use Rattle.room_marks.specs.Asking.{own_slot}
use Rattle.room_grants.specs.declared.Place.{Place}
use Rattle.room_grants.specs.declared.Place.TheVariants.{Shared, Anew, Refused}
use Rattle.room_grants.specs.Grants.{rates_by, marks_by, marks_without, give_up_verdict, given_up}
use Rattle.room_grants.proofs.Granting.{among, passes, anew-given, shared-given, give-up-given}
use Rattle.set_room.specs.Room.{Room, place_in, asked_of, answer_by, grant_of, gave_up, give_up_due}
use Rattle.room_runs.specs.Turns.{Furnished, holds_in, same_set}
use Rattle.room_runs.proofs.Holding.{own-shared, other-shared, own-anew, other-anew}
use Rattle.room_runs.proofs.GivingUp.{own-left, other-left}
use Rattle.desk_runs.specs.Alone.{Alone, give_up, holding, without}

module _ (room : Room) (f : Furnished room) (asked : Float) (in-mode : Mode) (g64 : fits binary64 asked ≡ true)
    (d : Desk) where
  abbrev n : ℕ
  n = length room.slots

  -- Slot k has the set, and is one of the room's.
  module _ (k : ℕ) (e : place_in asked in-mode room ≡ Shared k) where
    abbrev test : Float → ℕ → Bool
    test = has_set asked in-mode

    inside : k < length room.marks
    inside =
        let s = shared-given asked in-mode room.rates room.marks n k e in
        let b = among room.rates room.marks n f.agree test s.there in
        let q : k ≡ first_slot test room.rates room.marks = s.place in
        omega (arith, b, q)

    has : test (get_or room.rates k nan) (get_or room.marks k 0) ≡ true
    has =
        let s = shared-given asked in-mode room.rates room.marks n k e in
        rw s.place (passes room.rates room.marks n f.agree test s.there)

    ok : rate_ok asked ≡ true
    ok = (shared-given asked in-mode room.rates room.marks n k e).accepted.rate-ok

  module _ (a : Alone) (rate : Float) (mode : Mode) (h : holds_in d room rate mode ≡ a.held rate mode) where
    own-place : (p : Place) → place_in asked in-mode room ≡ p
        → some (own_set d rate mode) (rates_by p asked room.rates) (marks_by p d in-mode room.marks)
        ≡ (holding (answer_by p) asked in-mode a).held rate mode
    own-place (Shared k) e =
        own-shared room f asked in-mode g64 d rate mode (ok k e) k (inside k e) (has k e)
        ∙ ap (λ (b : Bool). same_set asked in-mode rate mode || b) h
    own-place (Anew k) e =
        own-anew room f asked in-mode g64 d rate mode k (anew-given asked in-mode room.rates room.marks n k e)
        ∙ ap (λ (b : Bool). same_set asked in-mode rate mode || b) h
    own-place (Refused m) e = h

    pub own-asks : holds_in d (asked_of d asked in-mode room) rate mode
        ≡ (holding (grant_of asked in-mode room) asked in-mode a).held rate mode
    unfolding asked_of
    own-asks = own-place (place_in asked in-mode room) refl

  module _ (rate : Float) (mode : Mode) where
    other_place : (p : Place) → place_in asked in-mode room ≡ p
        → some (own_set d rate mode) (rates_by p asked room.rates) (marks_by p (other_desk d) in-mode room.marks)
        ≡ holds_in d room rate mode
    other_place (Shared k) e = other-shared room f asked in-mode g64 d rate mode (ok k e) k (inside k e) (has k e)
    other_place (Anew k) e =
        other-anew room f asked in-mode g64 d rate mode k (anew-given asked in-mode room.rates room.marks n k e)
    other_place (Refused m) e = refl

    pub other-asks : holds_in d (asked_of (other_desk d) asked in-mode room) rate mode ≡ holds_in d room rate mode
    unfolding asked_of
    other-asks = other_place (place_in asked in-mode room) refl

-- ---- giving up
module _ (room : Room) (f : Furnished room) (given : Float) (in-mode : Mode) (g64 : fits binary64 given ≡ true)
    (giver : Desk) where
  abbrev floats : ℕ
  floats = length room.slots

  abbrev slot : ℕ
  slot = own_slot giver given in-mode room.rates room.marks

  -- The number, by the tests that a furnished room leaves.
  pub same_number : (a : Alone) → holds_in giver room given in-mode ≡ a.held given in-mode
      → give_up_due giver given in-mode room ≡ give_up a given in-mode
  unfolding give_up_verdict
  same_number a h = rw (f.agree, f.whole, h)

  module _ (e : give_up_verdict giver given in-mode room.rates room.marks floats ≡ 0) where
    slot-inside : slot < length room.marks
    slot-inside =
        among room.rates room.marks floats f.agree (own_set giver given in-mode)
        (give-up-given giver given in-mode room.rates room.marks floats e).held

    slot-own : own_set giver given in-mode (get_or room.rates slot nan) (get_or room.marks slot 0) ≡ true
    slot-own =
        passes room.rates room.marks floats f.agree (own_set giver given in-mode)
        (give-up-given giver given in-mode room.rates room.marks floats e).held

    slot_ok : rate_ok given ≡ true
    slot_ok = (give-up-given giver given in-mode room.rates room.marks floats e).accepted.rate-ok

  module _ (a : Alone) (rate : Float) (mode : Mode) (r64 : fits binary64 rate ≡ true)
      (h : holds_in giver room rate mode ≡ a.held rate mode) where
    own-by : (v : ℕ) → give_up_verdict giver given in-mode room.rates room.marks floats ≡ v
        → some (own_set giver rate mode) room.rates (marks_without v giver slot room.marks)
        ≡ (without v given in-mode a).held rate mode
    own-by zero e =
        own-left room f given in-mode g64 (slot_ok e) giver slot (slot-inside e) (slot-own e) rate mode r64
        ∙ ap (λ (b : Bool). not (same_set given in-mode rate mode) && b) h
    own-by (suc v) e = h

    pub own-gives : holds_in giver (gave_up giver given in-mode room) rate mode
        ≡ (without (give_up_due giver given in-mode room) given in-mode a).held rate mode
    unfolding gave_up given_up
    own-gives = own-by (give_up_verdict giver given in-mode room.rates room.marks floats) refl

  module _ (d : Desk) (q : giver ≡ other_desk d) (rate : Float) (mode : Mode) where
    other-by : (v : ℕ) → give_up_verdict giver given in-mode room.rates room.marks floats ≡ v
        → some (own_set d rate mode) room.rates (marks_without v giver slot room.marks)
        ≡ holds_in d room rate mode
    other-by zero e =
        other-left room f given in-mode g64 (slot_ok e) giver slot (slot-inside e) (slot-own e) d q rate mode
    other-by (suc v) e = refl

    pub other-gives : holds_in d (gave_up giver given in-mode room) rate mode ≡ holds_in d room rate mode
    unfolding gave_up given_up
    other-gives = other-by (give_up_verdict giver given in-mode room.rates room.marks floats) refl
