-- W4e. A desk that asks again for a set that it holds changes nothing: no other slot has that set, so it is the desk's
-- own slot that is found. Assumes nothing.
use mathlib.Core.Path.{◌≡◌, refl, sym, ◌∙◌, ap}
use mathlib.Core.Bool.{Bool, true, false, true≢false, not, ◌||◌}
use mathlib.Core.List.{List}
use Prim.Native.Nat.{ℕ, ◌<◌}
use native.Mathlib.Omega.{arith}
use borrow.Author.Tests.{not-true}
use lib.ListN.{length, get_or, set}
use lib.Seq.{set-get_or}
use lib.Ieee.{Float, nan, binary64, fits}
use Rattle.bessel.specs.declared.Mode.{Mode}
use Rattle.room_marks.specs.declared.Desk.{Desk}
use Rattle.room_marks.specs.Marks.{is_free, held_by, in_mode, mode_in, shared_by}
use Rattle.room_marks.specs.Slots.{first_slot, has_set, own_set}
use Rattle.room_marks.proofs.Searching.{mark-at}
use Rattle.room_grants.specs.declared.Place.{Place}
use Rattle.room_grants.specs.declared.Place.TheVariants.{Shared, Anew, Refused}
use Rattle.room_grants.specs.Grants.{rates_by, marks_by}
use Rattle.room_grants.proofs.Granting.{lengths, among, passes, anew-given, shared-given}
use Rattle.set_room.specs.Room.{Room, room_of, slots_by, place_in, asked_of}
use Rattle.room_runs.specs.Turns.{Furnished, holds_in}
use Rattle.room_runs.proofs.SameRate.{both, same-rate}
use Rattle.room_runs.proofs.Marking.{own-mode}
use Rattle.room_runs.proofs.Except.{except, apart, fewer, fewer-except, no_other}
use Rattle.room_runs.proofs.GivingUp.{own-has}

first_holds : (a b : Bool) → b ≡ false → a || b ≡ true → a ≡ true
first_holds true b e h = refl
first_holds false b e h = absurd (true≢false (sym h ∙ e))

module _ (desk : Desk) (rate : Float) (mode : Mode) (r : Room) (w : Furnished r) (f64 : fits binary64 rate ≡ true)
    (own : holds_in desk r rate mode ≡ true) where
  abbrev n : ℕ
  n = length r.slots

  long : length r.rates ≡ length r.marks
  long = lengths r.rates r.marks n w.agree

  -- The slot that has the set is the desk's own.
  held-there : (k : ℕ) → place_in rate mode r ≡ Shared k → held_by desk (get_or r.marks k 0) ≡ true
  held-there k e =
      let s = shared-given rate mode r.rates r.marks n k e in
      let m = get_or r.marks k 0 in
      let at = get_or r.rates k nan in
      let q : k ≡ first_slot (has_set rate mode) r.rates r.marks = s.place in
      let b = among r.rates r.marks n w.agree (has_set rate mode) s.there in
      let h : k < length r.marks = omega (arith, q, b) in
      let has : has_set rate mode at m ≡ true =
      rw q (passes r.rates r.marks n w.agree (has_set rate mode) s.there) in
      let g = both (not (is_free m)) _ has in
      let i = both (in_mode mode m) _ g.1 in
      let ok = mark-at r.rates r.marks k w.whole (omega (arith, long, h)) in
      let rate-is : at ≡ rate = sym (same-rate rate at f64 (w.f64 k) s.accepted.rate-ok i.1) in
      let mode-is : mode_in m ≡ mode = own-mode mode m ok i.0 in
      let none : except (has_set rate mode) k r.rates r.marks ≡ false =
      rw (rate-is, mode-is)
      at (no_other r.rates r.marks k w.whole (omega (arith, long, h)) h (not-true (is_free m) g.0)) in
      let fewer = fewer-except (has_set rate mode) (own_set desk rate mode) (own-has desk rate mode) r.rates
      r.marks k
      none in
      (both (held_by desk m) _
      (first_holds (own_set desk rate mode at m) (except (own_set desk rate mode) k r.rates r.marks)
      fewer (sym (apart (own_set desk rate mode) r.rates r.marks k (omega (arith, long, h)) h) ∙ own))).0

  by_place : (p : Place) → place_in rate mode r ≡ p
      → room_of (rates_by p rate r.rates) (marks_by p desk mode r.marks) (slots_by p rate mode r.slots) ≡ r
  by_place (Shared k) e =
      let m = get_or r.marks k 0 in
      let same : shared_by desk m ≡ m = rw (held-there k e) in
      ap (λ (v : ℕ). room_of r.rates (set r.marks k v) r.slots) same
      ∙ ap (λ (ms : List ℕ). room_of r.rates ms r.slots) (set-get_or r.marks k 0)
  by_place (Anew k) e =
      let a = anew-given rate mode r.rates r.marks n k e in
      absurd (true≢false (sym own
      ∙ fewer (has_set rate mode) (own_set desk rate mode) (own-has desk rate mode) r.rates r.marks a.missing))
  by_place (Refused k) e = refl

  pub asking-again : asked_of desk rate mode r ≡ r
  unfolding asked_of
  asking-again = by_place (place_in rate mode r) refl
