-- W4b to W4f by one call. A slot that is held keeps its rate, its mode and its floats, whoever asks; asking again for a
-- set that the desk holds changes nothing; giving up leaves every rate and every float. Assumes nothing.
use mathlib.Core.Path.{◌≡◌, refl, sym, ◌∙◌, ap}
use mathlib.Core.Bool.{true, false, true≢false}
use Prim.Native.Nat.{ℕ}
use lib.Dec.{ltb}
use lib.ListN.{length, get_or}
use lib.Seq.{get_or-set_other}
use lib.Ieee.{Float, nan, binary64, fits}
use Rattle.bessel.specs.declared.Mode.{Mode}
use Rattle.room_marks.specs.declared.Desk.{Desk}
use Rattle.room_marks.specs.Marks.{is_free}
use Rattle.room_marks.specs.Slots.{free}
use Rattle.room_grants.specs.declared.Place.{Place}
use Rattle.room_grants.specs.declared.Place.TheVariants.{Shared, Anew, Refused}
use Rattle.room_grants.specs.Grants.{rates_by, marks_by}
use Rattle.room_grants.proofs.Granting.{passes, anew-given}
use Rattle.set_room.specs.Room.{Room, room_of, slot_of, slots_by, place_in, asked_of, gave_up}
use Rattle.room_runs.specs.Turns.{Furnished}
use Rattle.room_runs.proofs.StaysFurnished.{other-slot}

-- What a held slot keeps: its rate and its floats.
pub record Kept (i : ℕ) (r s : Room) : Type 0 where
  pub rate : get_or s.rates i nan ≡ get_or r.rates i nan
  pub floats : slot_of i s.slots ≡ slot_of i r.slots

-- W4f. No set changes while it is held, by one ask.
module _ (desk : Desk) (rate : Float) (mode : Mode) (r : Room) (w : Furnished r) (f64 : fits binary64 rate ≡ true)
    (i : ℕ) (held : is_free (get_or r.marks i 0) ≡ false) where
  abbrev n : ℕ
  n = length r.slots

  by_place : (p : Place) → place_in rate mode r ≡ p
      → Kept i r (room_of (rates_by p rate r.rates) (marks_by p desk mode r.marks) (slots_by p rate mode r.slots))
  by_place (Shared k) e = record { rate = refl; floats = refl }
  by_place (Anew k) e =
      let a = anew-given rate mode r.rates r.marks n k e in
      let z : is_free (get_or r.marks k 0)
      ≡ true = rw a.place (passes r.rates r.marks n w.agree free a.some-free) in
      let other : i ≡ k → ⊥ = λ q. true≢false (sym z ∙ ap (λ (j : ℕ). is_free (get_or r.marks j 0)) (sym q) ∙ held) in
      record {
        rate = get_or-set_other r.rates k i rate nan other;
        floats = other-slot desk rate mode r k w f64 a i (ltb i k) refl other;
      }
  by_place (Refused m) e = record { rate = refl; floats = refl }

  pub held-by-asking : Kept i r (asked_of desk rate mode r)
  unfolding asked_of
  held-by-asking = by_place (place_in rate mode r) refl

-- W4d, W4f. Giving up leaves every rate and every float.
pub given-up-alone : (desk : Desk) (rate : Float) (mode : Mode) (r : Room)
    → ((gave_up desk rate mode r).rates ≡ r.rates) × ((gave_up desk rate mode r).slots ≡ r.slots)
unfolding gave_up
given-up-alone desk rate mode r = (refl, refl)
