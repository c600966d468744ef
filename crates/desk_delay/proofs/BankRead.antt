-- Demand 2 and W4: where the slots of the two sets that a desk holds have these sets' floats, its call is the quality
-- reader's over the bank of the desk's mode and maximum rate, which holds nothing else and which no other desk reads.
-- Assumes nothing.
use Rattle.std.proofs.Common.{◌≡◌, ℕ, ◌+◌, ◌*◌, ◌<◌, Bool, true, false, not, ◌&&◌, ◌||◌, List, length, sym, refl, ap}
use Rattle.std.proofs.Common.{◌∙◌, true≢false, lt-ltb, eq-eqb}
use lib.Ieee.{Float, is_nan}
use Rattle.variable_delay.specs.Reader.{stored, position_of}
use Rattle.bessel.specs.declared.Mode.{Mode}
use Rattle.bank_choice.specs.Rates.{bank_ok, steps_of, rate_of, set_rate_of}
use Rattle.bank_choice.specs.Choosing.{chosen_of}
use Rattle.bank_choice.specs.declared.Choice.{Choice}
use Rattle.bank_choice.proofs.OwnRate.{safe-inside, tighter-inside}
use Rattle.sinc_bank_f32.specs.Sets.{set_length, set_in, bank_in}
use Rattle.sinc_bank_f32.proofs.Lengths.{set-at, bank-long}
use Rattle.bank_read.specs.Bank.{set_at, tables_at, chosen_at, bank_at}
use Rattle.quality_mode.specs.declared.QualityMode.{QualityMode}
use Rattle.quality_mode.specs.declared.QualityMode.TheVariants.{Draft, Normal, Hq, Ultra}
use Rattle.quality_variable_delay.specs.Reader.{verdict, ring_after, processed_by}
use Rattle.quality_variable_delay.specs.Bank.{due_of, processed, ring_left}
use Rattle.quality_variable_delay.specs.declared.QualityVariableDelayF32.{QualityVariableDelayF32}
use Rattle.quality_variable_delay.proofs.AcceptedCall.{taken}
use Rattle.quality_variable_delay.proofs.ChosenCall.{same-readings}
use Rattle.room_marks.specs.Slots.{room_ok}
use Rattle.room_marks.specs.Asking.{lengths_agree}
use Rattle.set_room.specs.Room.{Room}
use Rattle.desk_delay.specs.Desk.{Caller, holds_set, held_slot, safe_rate, tighter_rate, desk_choice, held_at}
use Rattle.desk_delay.specs.Desk.{sets_held, desk_verdict, desk_call, desk_ring}
use Rattle.desk_delay.proofs.DeskCalls.{as-reader, is_number}

-- Two choices that are blended alike, over sets with the same floats, make the same reading.
same-sets : (a b : Choice) (q : QualityMode) (sets others xs : List Float) (count : ℕ) (p : Float)
    → a.which ≡ b.which → a.blend ≡ b.blend
    → set_at sets a.safe ≡ set_at others b.safe → set_at sets a.tighter ≡ set_at others b.tighter
    → chosen_at a q sets xs count p ≡ chosen_at b q others xs count p
unfolding chosen_at tables_at
same-sets a b Draft sets others xs count p w e s t = refl
same-sets a b Normal sets others xs count p w e s t = rw (w, e, s, t)
same-sets a b Hq sets others xs count p w e s t = rw (w, e, s, t)
same-sets a b Ultra sets others xs count p w e s t = rw (w, e, s, t)

-- The rate of a set of a bank, and the set's floats.
own-rate : (top : Float) (k : ℕ) → bank_ok top ≡ true → k < steps_of top
    → set_rate_of top k ≡ rate_of top (steps_of top) (k + 1)
own-rate top k ok l = rw (ok, lt-ltb k (steps_of top) l)

bank-set : (m : Mode) (top : Float) (k : ℕ) → bank_ok top ≡ true → k < steps_of top
    → set_in m (set_rate_of top k) ≡ set_at (bank_in m top) k
unfolding set_at
bank-set m top k ok l = ap (set_in m) (own-rate top k ok l) ∙ sym (set-at m top k l)

both : (a b : Bool) → a && b ≡ true → (a ≡ true) × (b ≡ true)
both true b h = (refl, h)
both false b h = absurd (true≢false (sym h))

module _ (c : Caller) (room : Room) (top : Float) (d : QualityVariableDelayF32) (xs : List Float) (x y rate : Float)
    (whole : room_ok room.rates room.marks ≡ true) (lent : sets_held c room top rate ≡ true)
    (safe : holds_set c room (safe_rate top rate) ≡ true
    → set_at room.slots (held_slot c room (safe_rate top rate)) ≡ set_in c.mode (safe_rate top rate))
    (tighter : holds_set c room (tighter_rate top rate) ≡ true
    → set_at room.slots (held_slot c room (tighter_rate top rate)) ≡ set_in c.mode (tighter_rate top rate)) where
  abbrev bank : List Float
  bank = bank_in c.mode top

  abbrev due : ℕ
  due = verdict (bank_ok top) (sets_held c room top rate) d (length xs) x y rate

  -- The bank's own test of its length holds.
  same-due : due ≡ due_of (length bank) top d (length xs) x y rate
  same-due = rw (lent, eq-eqb (length bank) (steps_of top * set_length) (bank-long c.mode top))

  desk-due : desk_verdict c room top d (length xs) x y rate ≡ due_of (length bank) top d (length xs) x y rate
  desk-due = sym (as-reader c room.rates room.marks room.slots top d (length xs) x y rate whole) ∙ same-due

  held : not (is_nan rate) ≡ true
      → (holds_set c room (safe_rate top rate) ≡ true) × (holds_set c room (tighter_rate top rate) ≡ true)
  held n =
      both _ _ (asked (is_nan rate) _ n
      (both (lengths_agree room.rates room.marks (length room.slots)) _ lent).1)
    where
      asked : (a b : Bool) → not a ≡ true → a || b ≡ true → b ≡ true
      asked true b n h = absurd (true≢false (sym n))
      asked false b n h = h

  same-reading : bank_ok top ≡ true → not (is_nan rate) ≡ true → (q : QualityMode) (ys : List Float) (count : ℕ)
      (p : Float) → held_at c room top rate q ys count p ≡ bank_at bank top rate q ys count p
  unfolding desk_choice
  same-reading ok n q ys count p =
      same-sets (desk_choice c room top rate) (chosen_of top rate) q room.slots bank ys count p refl refl
      (safe (held n).0 ∙ bank-set c.mode top (chosen_of top rate).safe ok (safe-inside top rate))
      (tighter (held n).1 ∙ bank-set c.mode top (chosen_of top rate).tighter ok (tighter-inside top rate))

  pub bank-read : (q : QualityMode) → desk_call c room top d xs x y q rate ≡ processed bank top d xs x y q rate
  bank-read q =
      ap (λ (v : ℕ). processed_by (held_at c room top rate) v d xs x y q) desk-due
      ∙ same-readings (held_at c room top rate) (bank_at bank top rate)
      (due_of (length bank) top d (length xs) x y rate)
      d xs x y q
      (λ none r.
      let t = taken (bank_ok top) (sets_held c room top rate) d (length xs) x y rate (same-due ∙ none) in
      let n = is_number c room.rates room.marks room.slots top d (length xs) x y rate (same-due ∙ none) in
      same-reading t.banked n r (stored d.accepted xs x) (d.accepted + 1) (position_of d.accepted y))

  pub bank-ring : desk_ring c room top d xs x y rate ≡ ring_left bank top d xs x y rate
  bank-ring = ap (λ (v : ℕ). ring_after v d xs x) desk-due
