-- W4e, W4j. In a room in range the slot in which a desk holds a set is the only one. Assumes nothing.
use mathlib.Core.Path.{◌≡◌, refl, sym, ap}
use mathlib.Core.Bool.{Bool, true, false, true≢false, not, cond, ◌&&◌, ◌||◌}
use mathlib.Core.List.{List, [], ◌∷◌}
use Prim.Native.Nat.{ℕ, zero, suc, ◌<◌}
use native.Mathlib.Omega.{arith}
use borrow.Author.Tests.{le-ltb, leb-true, ne_eqb}
use lib.Dec.{T}
use lib.ListN.{get_or}
use lib.Ieee.{Float, le, eq}
use lib.Ieee.Scale.{finite}
use Rattle.bessel.specs.declared.Mode.{Mode}
use Rattle.bessel.specs.declared.Mode.TheVariants.{Ported, Full}
use Rattle.sinc_settings.specs.Ranges.{one-f, two-f}
use Rattle.room_marks.specs.declared.Desk.{Desk}
use Rattle.room_marks.specs.declared.Desk.TheVariants.{One, Two}
use Rattle.room_marks.specs.Marks.{mark_ok, is_free, held_by, in_mode, mode_in}
use Rattle.room_marks.specs.Slots.{some, first_slot, has_set, own_set, slot_ok, again, room_ok}
use Rattle.room_marks.specs.Search.{shorter}
use Rattle.desk_slots.proofs.FloatOrder.{bounded, equal-both}

both : (a b : Bool) → a && b ≡ true → (a ≡ true) × (b ≡ true)
both true b h = (refl, h)
both false b h = absurd (true≢false (sym h))

nobody : (desk : Desk) → held_by desk 0 ≡ true → ⊥
nobody One h = true≢false (sym h)
nobody Two h = true≢false (sym h)

-- Who holds a slot holds one that is not free.
held-some : (desk : Desk) (m : ℕ) → held_by desk m ≡ true → is_free m ≡ false
held-some desk m h = go m h
  where
    go : (m : ℕ) → held_by desk m ≡ true → is_free m ≡ false
    go zero h = absurd (nobody desk h)
    go (suc k) h = ne_eqb (suc k) 0 (λ z. omega arith)

mode-in : (mode : Mode) (m : ℕ) → in_mode mode m ≡ true → mode_in m ≡ mode
mode-in Ported m h = rw h
mode-in Full m h = rw (le-ltb m 4 (leb-true 4 m h))

-- The parts of a desk's hold on a slot.
record Own (desk : Desk) (rate : Float) (mode : Mode) (r : Float) (m : ℕ) : Type 0 where
  some_one : is_free m ≡ false
  in-mode : in_mode mode m ≡ true
  at-rate : eq rate r ≡ true

own : (desk : Desk) (rate : Float) (mode : Mode) (r : Float) (m : ℕ) → own_set desk rate mode r m ≡ true
    → Own desk rate mode r m
own desk rate mode r m h =
    let a = both (held_by desk m) _ h in
    let b = both (in_mode mode m) _ a.1 in
    record { some_one = held-some desk m a.0; in-mode = b.0; at-rate = b.1 }

-- A held slot in range has a finite rate.
rate-finite : (r : Float) (m : ℕ) → slot_ok r m ≡ true → is_free m ≡ false → T (finite r)
rate-finite r m h f =
    let b = both (le one-f r) (le r two-f) (rw f at (both (mark_ok m) _ h).1) in bounded r b.0 b.1

module _ (d : Float) where
  abbrev Slot : (Float → ℕ → Bool) → List Float → List ℕ → ℕ → Type 0
  Slot test rates marks k = test (get_or rates k d) (get_or marks k 0) ≡ true

  some_at : (test : Float → ℕ → Bool) (rates : List Float) (marks : List ℕ) (k : ℕ) → k < shorter rates marks
      → Slot test rates marks k → some test rates marks ≡ true
  unfolding some
  some_at test [] marks k l h = absurd (omega arith)
  some_at test (r ∷ rates) [] k l h = absurd (omega arith)
  some_at test (r ∷ rates) (m ∷ marks) zero l h = rw h
  some_at test (r ∷ rates) (m ∷ marks) (suc k) l h = or-true (test r m) _ (some_at test rates marks k (omega arith) h)
    where
      or-true : (a b : Bool) → b ≡ true → a || b ≡ true
      or-true true b h = refl
      or-true false b h = h

  slot-fine : (rates : List Float) (marks : List ℕ) (k : ℕ) → k < shorter rates marks → room_ok rates marks ≡ true
      → Slot slot_ok rates marks k
  unfolding room_ok
  slot-fine [] marks k l h = absurd (omega arith)
  slot-fine (r ∷ rates) [] k l h = absurd (omega arith)
  slot-fine (r ∷ rates) (m ∷ marks) zero l h = (both (slot_ok r m) _ h).0
  slot-fine (r ∷ rates) (m ∷ marks) (suc k) l h =
      slot-fine rates marks k (omega arith)
      (both (not (again r m rates marks)) (room_ok rates marks) (both (slot_ok r m) _ h).1).1

  module _ (desk : Desk) (rate : Float) (mode : Mode) where
    -- An earlier slot with the set would be the same set again.
    twice : (r : Float) (m : ℕ) (rates : List Float) (marks : List ℕ) (k : ℕ) → k < shorter rates marks
        → room_ok (r ∷ rates) (m ∷ marks) ≡ true → Slot (own_set desk rate mode) rates marks k
        → own_set desk rate mode r m ≡ true → ⊥
    unfolding room_ok
    twice r m rates marks k l ok h e =
        let a = both (slot_ok r m) _ ok in
        let b = both (not (again r m rates marks)) (room_ok rates marks) a.1 in
        let first = own desk rate mode r m e in
        let later = own desk rate mode (get_or rates k d) (get_or marks k 0) h in
        let p = rate-finite r m a.0 first.some_one in
        let q =
        rate-finite (get_or rates k d) (get_or marks k 0) (slot-fine rates marks k l b.1) later.some_one in
        let same = equal-both rate r (get_or rates k d) p q first.at-rate later.at-rate in
        let has : Slot (has_set r (mode_in m)) rates marks k =
        rw (later.some_one, mode-in mode m first.in-mode, later.in-mode, same) in
        let found = some_at (has_set r (mode_in m)) rates marks k l has in
        true≢false (sym (rw (first.some_one, found) at b.0))

    pub only-slot : (rates : List Float) (marks : List ℕ) (k : ℕ) → k < shorter rates marks
        → room_ok rates marks ≡ true → Slot (own_set desk rate mode) rates marks k
        → k ≡ first_slot (own_set desk rate mode) rates marks
    unfolding first_slot room_ok
    only-slot [] marks k l ok h = absurd (omega arith)
    only-slot (r ∷ rates) [] k l ok h = absurd (omega arith)
    only-slot (r ∷ rates) (m ∷ marks) zero l ok h = rw h
    only-slot (r ∷ rates) (m ∷ marks) (suc k) l ok h =
        go (own_set desk rate mode r m) (twice r m rates marks k (omega arith) ok h)
        (only-slot rates marks k (omega arith)
        (both (not (again r m rates marks)) (room_ok rates marks) (both (slot_ok r m) _ ok).1).1 h)
      where
        go : (b : Bool) → (b ≡ true → ⊥) → k ≡ first_slot (own_set desk rate mode) rates marks
            → suc k ≡ cond b 0 (suc (first_slot (own_set desk rate mode) rates marks))
        go true n e = absurd (n refl)
        go false n e = ap suc e
