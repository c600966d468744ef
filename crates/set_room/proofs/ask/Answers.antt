-- `set_room::ask` meets its contract, by where `room_grants::ask` has found the set; a free slot is built. Assumes
-- nothing.
use borrow.Author.Rules.{rules}
use mathlib.Core.Path.{◌≡◌, refl, sym, ap, ◌∙◌}
use mathlib.Core.List.{List}
use Prim.Native.Nat.{ℕ}
use lib.ListN.{length}
use lib.Ieee.{Float}
use Rattle.bessel.specs.declared.Mode.{Mode}
use Rattle.room_marks.specs.declared.Desk.{Desk}
use Rattle.room_grants.specs.declared.Place.{Place}
use Rattle.room_grants.specs.Grants.{asked_place, rates_by, marks_by}
use Rattle.room_grants.proofs.Granting.{anew-given, anew-fits}
use Rattle.set_room.specs.Room.{room_of, slots_by, answer_by, grant_of, asked_of}
use Rattle.set_room.proofs.ask.Goals as goal

-- From the match back to the call.
pub build-requires : goal.build-requires
build-requires c =
    let a = c.args in
    let w = anew-given a.rate a.mode a.rates.now a.marks.now (length a.slots.now) _
    (sym c.ask-place.ensures.value ∙ c.in-Anew.is) in (
      w.accepted.rate-ok,
      anew-fits a.rate a.mode a.rates.now a.marks.now
          (length a.slots.now) _ w,
    )

-- The answer and the room, by where the set is.
answered : (desk : Desk) (rate : Float) (mode : Mode) (rates rates' : List Float) (marks marks' : List ℕ)
    (slots slots' : List Float) (p q : Place) → let at = asked_place rate mode rates marks (length slots) in
    p ≡ at → p ≡ q → rates' ≡ rates_by at rate rates → marks' ≡ marks_by at desk mode marks
    → slots' ≡ slots_by q rate mode slots
    → (answer_by q ≡ grant_of rate mode (room_of rates marks slots))
    × (room_of rates' marks' slots' ≡ asked_of desk rate mode (room_of rates marks slots))
unfolding asked_of
answered desk rate mode rates rates' marks marks' slots slots' p q e f r m s =
    let same = sym e ∙ f in (ap answer_by (sym same), rw (r, m, s, same))

pub returns-in-Shared : goal.returns-in-Shared
returns-in-Shared c =
    let a = c.args in
    let e = c.ask-place.ensures in
    let both = answered a.desk a.rate a.mode a.rates.now _ a.marks.now _ a.slots.now _ c.ask-place.result _
    e.value c.in-Shared.is e.rates_after e.marks_after refl in
    record { value = both.0; slots_after = both.1 }

pub returns-in-Anew : goal.returns-in-Anew
returns-in-Anew c =
    let a = c.args in
    let e = c.ask-place.ensures in
    let both = answered a.desk a.rate a.mode a.rates.now _ a.marks.now _ a.slots.now _ c.ask-place.result _
    e.value c.in-Anew.is e.rates_after e.marks_after c.build.ensures in
    record { value = both.0; slots_after = both.1 }

pub returns-in-Refused : goal.returns-in-Refused
returns-in-Refused c =
    let a = c.args in
    let e = c.ask-place.ensures in
    let both = answered a.desk a.rate a.mode a.rates.now _ a.marks.now _ a.slots.now _ c.ask-place.result _
    e.value c.in-Refused.is e.rates_after e.marks_after refl in
    record { value = both.0; slots_after = both.1 }
