-- What holds where a set is granted: every test is passed, and the slot is the one that has the set, or the first free
-- one where none has it. Assumes nothing.
use mathlib.Core.Path.{◌≡◌, refl, sym, ◌∙◌}
use mathlib.Core.Bool.{Bool, true, false, true≢false, ◌&&◌, ◌||◌}
use mathlib.Core.List.{List, [], ◌∷◌}
use Prim.Native.Nat.{ℕ, ◌+◌, ◌*◌, ◌≤◌, ◌<◌}
use native.Mathlib.Omega.{arith}
use borrow.Author.Tests.{ltb-true, eqb-true}
use lib.Dec.{eqb}
use lib.ListN.{length, get_or}
use lib.Ieee.{Float, nan}
use Rattle.constants.specs.Numbers.{set_length}
use Rattle.refusal_order.specs.Order.{◌unless◌, first_of}
use Rattle.sinc_settings.specs.Ranges.{rate_ok}
use Rattle.bessel.specs.declared.Mode.{Mode}
use Rattle.room_marks.specs.declared.Desk.{Desk}
use Rattle.room_grants.specs.declared.Place.{Place}
use Rattle.room_grants.specs.declared.Place.TheVariants.{Shared, Anew}
use Rattle.room_marks.specs.Slots.{some, first_slot, free, has_set, own_set, room_ok}
use Rattle.room_marks.specs.Asking.{lengths_agree, set_slot, free_slot}
use Rattle.room_grants.specs.Grants.{ask_verdict, place_by, asked_place, give_up_verdict}
use Rattle.room_marks.specs.Search.{shorter}
use Rattle.room_marks.proofs.Searching.{some_first, first_passes}

-- The tests that every accepted call has passed.
pub record Accepted (rate : Float) (rates : List Float) (marks : List ℕ) (floats : ℕ) : Type 0 where
  pub rate-ok : rate_ok rate ≡ true
  pub agree : lengths_agree rates marks floats ≡ true
  pub room-ok : room_ok rates marks ≡ true

agreeing : (rates : List Float) (marks : List ℕ) (floats : ℕ) (b : Bool) → eqb (length rates) (length marks) ≡ b
    → b && eqb floats (length marks * set_length) ≡ true
    → (length rates ≡ length marks) × (floats ≡ length marks * set_length)
agreeing rates marks floats true e h =
    (eqb-true (length rates) (length marks) e, eqb-true floats (length marks * set_length) h)
agreeing rates marks floats false e h = absurd (true≢false (sym h))

module _ (rates : List Float) (marks : List ℕ) (floats : ℕ) (agree : lengths_agree rates marks floats ≡ true) where
  pub lengths : length rates ≡ length marks
  lengths = (agreeing rates marks floats _ refl agree).0

  pub floats-of : floats ≡ length marks * set_length
  floats-of = (agreeing rates marks floats _ refl agree).1

  -- The first slot that passes a test is one of the slots, if some slot passes.
  pub among : (test : Float → ℕ → Bool) → some test rates marks ≡ true → first_slot test rates marks < length marks
  among test h =
      let l = ltb-true (first_slot test rates marks) (shorter rates marks) (sym (some_first test rates marks) ∙ h) in
      omega (arith, l, lengths)

  pub passes : (test : Float → ℕ → Bool) → some test rates marks ≡ true → let k = first_slot test rates marks in
      test (get_or rates k nan) (get_or marks k 0) ≡ true
  passes test h =
      first_passes test rates marks
      (ltb-true (first_slot test rates marks) (shorter rates marks) (sym (some_first test rates marks) ∙ h))

-- ---- by the tests
abbrev placed : (a b c d e : Bool) (s f : ℕ) → Place
placed a b c d e s f =
    place_by (first_of (1 unless a ∷ 2 unless b ∷ 3 unless c ∷ 16 unless (d || e) ∷ [])) d s f

by-anew : (a b c d e : Bool) (s f k : ℕ) → placed a b c d e s f ≡ Anew k
    → (a ≡ true) × (b ≡ true) × (c ≡ true) × (d ≡ false) × (e ≡ true) × (k ≡ f)
by-anew false b c d e s f k h = absurd (let z : ◌≡◌ {A = ℕ} 0 1 = cc in omega arith)
by-anew true false c d e s f k h = absurd (let z : ◌≡◌ {A = ℕ} 0 1 = cc in omega arith)
by-anew true true false d e s f k h = absurd (let z : ◌≡◌ {A = ℕ} 0 1 = cc in omega arith)
by-anew true true true true e s f k h = absurd (let z : ◌≡◌ {A = ℕ} 0 1 = cc in omega arith)
by-anew true true true false false s f k h = absurd (let z : ◌≡◌ {A = ℕ} 0 1 = cc in omega arith)
by-anew true true true false true s f k h = (refl, refl, refl, refl, refl, cc)

by-shared : (a b c d e : Bool) (s f k : ℕ) → placed a b c d e s f ≡ Shared k
    → (a ≡ true) × (b ≡ true) × (c ≡ true) × (d ≡ true) × (k ≡ s)
by-shared false b c d e s f k h = absurd (let z : ◌≡◌ {A = ℕ} 0 1 = cc in omega arith)
by-shared true false c d e s f k h = absurd (let z : ◌≡◌ {A = ℕ} 0 1 = cc in omega arith)
by-shared true true false d e s f k h = absurd (let z : ◌≡◌ {A = ℕ} 0 1 = cc in omega arith)
by-shared true true true true e s f k h = (refl, refl, refl, refl, cc)
by-shared true true true false false s f k h = absurd (let z : ◌≡◌ {A = ℕ} 0 1 = cc in omega arith)
by-shared true true true false true s f k h = absurd (let z : ◌≡◌ {A = ℕ} 0 1 = cc in omega arith)

module _ (rate : Float) (mode : Mode) (rates : List Float) (marks : List ℕ) (floats k : ℕ) where
  -- W4c. A set that is built anew: no slot has it, and the slot is the first free one.
  pub record AnewAt : Type 0 where
    pub accepted : Accepted rate rates marks floats
    pub missing : some (has_set rate mode) rates marks ≡ false
    pub some-free : some free rates marks ≡ true
    pub place : k ≡ free_slot rates marks

  pub anew-given : asked_place rate mode rates marks floats ≡ Anew k → AnewAt
  unfolding asked_place ask_verdict
  anew-given h =
      let g = by-anew (rate_ok rate) (lengths_agree rates marks floats) (room_ok rates marks)
      (some (has_set rate mode) rates marks) (some free rates marks) (set_slot rate mode rates marks)
      (free_slot rates marks) k h in
      record {
        accepted = record { rate-ok = g.0; agree = g.1; room-ok = g.2 };
        missing = g.3;
        some-free = g.4;
        place = g.5;
      }

  -- W4b. A set that is shared: the slot has it.
  pub record SharedAt : Type 0 where
    pub accepted : Accepted rate rates marks floats
    pub there : some (has_set rate mode) rates marks ≡ true
    pub place : k ≡ set_slot rate mode rates marks

  pub shared-given : asked_place rate mode rates marks floats ≡ Shared k → SharedAt
  unfolding asked_place ask_verdict
  shared-given h =
      let g = by-shared (rate_ok rate) (lengths_agree rates marks floats) (room_ok rates marks)
      (some (has_set rate mode) rates marks) (some free rates marks) (set_slot rate mode rates marks)
      (free_slot rates marks) k h in
      record {
        accepted = record { rate-ok = g.0; agree = g.1; room-ok = g.2 };
        there = g.3;
        place = g.4;
      }

  -- The slot that is built is one of the room's, and its floats are.
  pub anew-below : AnewAt → k < length marks
  anew-below w =
      let h = among rates marks floats w.accepted.agree free w.some-free in omega (arith, w.place, h)

  pub anew-fits : AnewAt → k * set_length + set_length ≤ floats
  anew-fits w = omega (arith, anew-below w, floats-of rates marks floats w.accepted.agree)

-- ---- a set that is given up: the desk holds it
by-held : (a b c d : Bool) → first_of (1 unless a ∷ 2 unless b ∷ 3 unless c ∷ 17 unless d ∷ []) ≡ 0
    → (a ≡ true) × (b ≡ true) × (c ≡ true) × (d ≡ true)
by-held false b c d h = absurd (omega arith)
by-held true false c d h = absurd (omega arith)
by-held true true false d h = absurd (omega arith)
by-held true true true false h = absurd (omega arith)
by-held true true true true h = (refl, refl, refl, refl)

module _ (desk : Desk) (rate : Float) (mode : Mode) (rates : List Float) (marks : List ℕ) (floats : ℕ) where
  pub record GivenUp : Type 0 where
    pub accepted : Accepted rate rates marks floats
    pub held : some (own_set desk rate mode) rates marks ≡ true

  pub give-up-given : give_up_verdict desk rate mode rates marks floats ≡ 0 → GivenUp
  unfolding give_up_verdict
  give-up-given h =
      let g = by-held (rate_ok rate) (lengths_agree rates marks floats) (room_ok rates marks)
      (some (own_set desk rate mode) rates marks) h in
      record { accepted = record { rate-ok = g.0; agree = g.1; room-ok = g.2 }; held = g.3 }
