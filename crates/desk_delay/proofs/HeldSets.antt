-- What the code finds in a room is what the definition asks: a set is held exactly if its slot is one of the room's,
-- and by the slots of two sets that are held every quality reads what stands there. Assumes nothing.
use Rattle.std.proofs.Common.{◌≡◌, ℕ, ◌+◌, ◌*◌, ◌≤◌, min, Bool, true, false, not, ◌&&◌, ◌||◌, eqb, ltb, List, length}
use Rattle.std.proofs.Common.{sym, refl, ap, ◌∙◌, true≢false, arith, ltb-true, eqb-true, le-leb}
use lib.Ieee.{Float, is_nan}
use Rattle.ring.specs.Places.{position_ok}
use Rattle.bank_choice.specs.Rates.{bank_ok, set_rate_of}
use Rattle.bank_choice.specs.Inner.{choice_of}
use Rattle.bank_choice.specs.declared.Choice.{Choice}
use Rattle.bank_read.specs.Bank.{chosen_at}
use Rattle.bank_read.specs.Inner.{sets_ok, held_ok, read_of}
use Rattle.quality_mode.specs.declared.QualityMode.{QualityMode}
use Rattle.quality_mode.specs.declared.QualityMode.TheVariants.{Draft, Normal, Hq, Ultra}
use Rattle.room_marks.specs.Slots.{some, first_slot, own_set}
use Rattle.room_marks.specs.Asking.{lengths_agree}
use Rattle.room_marks.proofs.Searching.{some_first}
use Rattle.set_room.specs.Room.{Room, room_of}
use Rattle.desk_delay.specs.Desk.{Caller, safe_rate, tighter_rate, desk_choice, held_at, sets_held}
use Rattle.desk_delay.specs.Inner.{slot_choice, lent_of}

both : (a b : Bool) → a && b ≡ true → (a ≡ true) × (b ≡ true)
both true b h = (refl, h)
both false b h = absurd (true≢false (sym h))

-- With the bank's rate out of range no set has a rate, whichever is chosen.
module _ (top rate : Float) where
  safe-rate : set_rate_of top (choice_of top rate).safe ≡ safe_rate top rate
  safe-rate = go (bank_ok top) refl
    where
      go : (b : Bool) → bank_ok top ≡ b → set_rate_of top (choice_of top rate).safe ≡ safe_rate top rate
      go true e = rw e
      go false e = rw e

  tighter-rate : set_rate_of top (choice_of top rate).tighter ≡ tighter_rate top rate
  tighter-rate = go (bank_ok top) refl
    where
      go : (b : Bool) → bank_ok top ≡ b → set_rate_of top (choice_of top rate).tighter ≡ tighter_rate top rate
      go true e = rw e
      go false e = rw e

-- Where there is a mark for each rate, a test passes somewhere exactly if its slot has a mark.
held : (test : Float → ℕ → Bool) (rates : List Float) (marks : List ℕ) → length rates ≡ length marks
    → ltb (first_slot test rates marks) (length marks) ≡ some test rates marks
held test rates marks e =
    let n = length marks in
    let m : min (length rates) n ≡ n = omega arith in
    sym (some_first test rates marks ∙ ap (ltb (first_slot test rates marks)) m)

module _ (c : Caller) (rates : List Float) (marks : List ℕ) (slots : List Float) where
  abbrev room : Room
  room = room_of rates marks slots

  abbrev own : Float → Float → ℕ → Bool
  own rate = own_set c.desk rate c.mode

  pub lent-held : (top rate : Float) → lent_of c rates marks (length slots) top rate ≡ sets_held c room top rate
  lent-held top rate = go (lengths_agree rates marks (length slots)) refl
    where
      go : (b : Bool) → lengths_agree rates marks (length slots) ≡ b
          → lent_of c rates marks (length slots) top rate ≡ sets_held c room top rate
      go true e =
          let l = eqb-true (length rates) (length marks) (both (eqb (length rates) (length marks)) _ e).0 in
          rw (
            safe-rate top rate,
            tighter-rate top rate,
            held (own (safe_rate top rate)) rates marks l,
            held (own (tighter_rate top rate)) rates marks l,
          )
      go false e = rw e

  -- ---- a call in which both sets are held
  module _ (top rate : Float) (ok : bank_ok top ≡ true) (number : not (is_nan rate) ≡ true)
      (lent : sets_held c room top rate ≡ true) where
    pub same-choice : slot_choice c rates marks top rate ≡ desk_choice c room top rate
    unfolding desk_choice
    same-choice = rw ok

    -- A slot of the room has the floats of a set.
    whole : (k : ℕ) → eqb (length slots) (length marks * 1081648) ≡ true → ltb k (length marks) ≡ true
        → (k + 1) * 1081648 ≤ length slots
    whole k e h =
        let l = eqb-true (length slots) (length marks * 1081648) e in
        let b = ltb-true k (length marks) h in
        omega arith

    pub sets-there : sets_ok (slot_choice c rates marks top rate) (length slots) ≡ true
    sets-there =
        let h = both (lengths_agree rates marks (length slots)) _ (lent-held top rate ∙ lent) in
        let agree = both (eqb (length rates) (length marks)) _ h.0 in
        let two = both (ltb (slot_choice c rates marks top rate).safe (length marks)) _
        (asked (is_nan rate) _ number h.1) in
        rw (
          le-leb _ _ (whole (slot_choice c rates marks top rate).safe agree.1 two.0),
          le-leb _ _ (whole (slot_choice c rates marks top rate).tighter agree.1 two.1),
        )
      where
        asked : (a b : Bool) → not a ≡ true → a || b ≡ true → b ≡ true
        asked true b n h = absurd (true≢false (sym n))
        asked false b n h = h

    -- T4. So the reading is that of the two slots.
    pub reads-slots : (q : QualityMode) (xs : List Float) (count : ℕ) (p : Float) → position_ok p ≡ true
        → read_of (slot_choice c rates marks top rate) q slots xs count p ≡ held_at c room top rate q xs count p
    reads-slots q xs count p h =
        let k = slot_choice c rates marks top rate in
        rw (there k q sets-there, h)
        (ap (λ (k : Choice). chosen_at k q slots xs count p) same-choice)
      where
        there : (k : Choice) (q : QualityMode) → sets_ok k (length slots) ≡ true → held_ok k q (length slots) ≡ true
        there k Draft h = refl
        there k Normal h = h
        there k Hq h = h
        there k Ultra h = h
