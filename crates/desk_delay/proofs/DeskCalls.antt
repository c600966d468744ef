-- A desk's call in a room in range is the reader's call over the two slots; in a room out of range it is refused.
-- Assumes nothing.
use Rattle.std.proofs.Common.{◌≡◌, ℕ, ◌+◌, ◌^◌, Bool, true, false, not, ◌&&◌, eqb, ltb, leb, List, length, pos, refl}
use Rattle.std.proofs.Common.{ap, ◌∙◌}
use lib.Ieee.{Float, fin, le, is_nan}
use lib.Ieee.Bits.{is_true}
use lib.Ieee.Scale.{finite}
use Rattle.answer.proofs.Passed.{passed}
use Rattle.ring.specs.Length.{settings_ok, length_for}
use Rattle.variable_delay.specs.Reader.{stored, position_of}
use Rattle.bank_choice.specs.Rates.{bank_ok}
use Rattle.quality_mode.specs.declared.QualityMode.{QualityMode}
use Rattle.quality_fade.specs.Fade.{length_ok}
use Rattle.returning_fade.specs.Rules.{place_ok}
use Rattle.quality_variable_delay.specs.State.{fade_part}
use Rattle.quality_variable_delay.specs.Reader.{verdict, ring_after, processed_by}
use Rattle.quality_variable_delay.specs.Chosen.{read_by, chosen_call, ring_chosen}
use Rattle.quality_variable_delay.specs.declared.QualityVariableDelayF32.{QualityVariableDelayF32}
use Rattle.quality_variable_delay.proofs.AcceptedCall.{taken, position-in-range}
use Rattle.quality_variable_delay.proofs.ChosenCall.{same-readings}
use Rattle.quality_variable_delay.proofs.Refused.{not-processed, same-ring}
use Rattle.room_marks.specs.Slots.{room_ok}
use Rattle.set_room.specs.Room.{Room, room_of}
use Rattle.desk_delay.specs.Desk.{Caller, held_at, sets_held, desk_verdict, desk_call, desk_ring}
use Rattle.desk_delay.specs.Inner.{slot_choice, lent_of, out_of_range, in_room, refused_by}
use Rattle.desk_delay.proofs.RoomRefusal.{in-range, out_of_range-number, some_number}
use Rattle.desk_delay.proofs.HeldSets.{lent-held, reads-slots}

-- The number, with a ring of length `len`.
module _ (c : Caller) (rates : List Float) (marks : List ℕ) (slots : List Float) (top : Float)
    (d : QualityVariableDelayF32) (len : ℕ) (x y rate : Float) where
  abbrev room : Room
  room = room_of rates marks slots

  -- The reader's own verdict, with the tests of the room's lengths and sets.
  abbrev reader : ℕ
  reader = verdict (bank_ok top) (sets_held c room top rate) d len x y rate

  -- The tests one by one.
  abbrev settings : Bool
  settings = settings_ok d.maximum d.margin && (length_ok d.crossfade_samples && bank_ok top)

  abbrev lengths : Bool
  lengths = eqb len (length_for d.maximum d.margin) && sets_held c room top rate

  abbrev fields : Bool
  fields = leb d.accepted (2 ^ 36) && place_ok (fade_part d)

  abbrev late : Bool
  late = finite y && le (fin false 0 (pos 0)) y

  abbrev near : Bool
  near = le y (fin false 1 (pos 36))

  pub as-reader : room_ok rates marks ≡ true → reader ≡ desk_verdict c room top d len x y rate
  as-reader h =
      rw h (in-range settings lengths fields (finite x) late near (not (is_nan rate)) (ltb d.accepted (2 ^ 36)))

  pub as-refused : room_ok rates marks ≡ false → out_of_range reader ≡ desk_verdict c room top d len x y rate
  as-refused h =
      rw h (out_of_range-number settings lengths fields (finite x) late near (not (is_nan rate))
      (ltb d.accepted (2 ^ 36)))

  pub is_number : reader ≡ 0 → not (is_nan rate) ≡ true
  is_number h =
      is_true (not (is_nan rate))
      (passed settings lengths fields (finite x) late near (not (is_nan rate)) (ltb d.accepted (2 ^ 36)) h).p7

  -- The number by what the code finds.
  pub found-due : in_room (room_ok rates marks)
      (verdict (bank_ok top) (lent_of c rates marks (length slots) top rate) d len x y rate)
      ≡ desk_verdict c room top d len x y rate
  found-due = rw (lent-held c rates marks slots top rate) (go (room_ok rates marks) refl)
    where
      go : (b : Bool) → room_ok rates marks ≡ b → in_room b reader ≡ desk_verdict c room top d len x y rate
      go true h = as-reader h
      go false h = as-refused h

module _ (c : Caller) (rates : List Float) (marks : List ℕ) (slots : List Float) (top : Float)
    (d : QualityVariableDelayF32) (xs : List Float) (x y rate : Float) where
  module _ (h : room_ok rates marks ≡ true) where
    pub chosen-call : (q : QualityMode)
        → chosen_call (slot_choice c rates marks top rate) slots (bank_ok top)
        (lent_of c rates marks (length slots) top rate)
        d xs x y q rate
        ≡ desk_call c (room_of rates marks slots) top d xs x y q rate
    chosen-call q =
        rw (lent-held c rates marks slots top rate)
        (same-readings (read_by (slot_choice c rates marks top rate) slots)
        (held_at c (room_of rates marks slots) top rate)
        (reader c rates marks slots top d (length xs) x y rate) d xs x y q
        (λ none r.
        let t = taken (bank_ok top) (sets_held c (room_of rates marks slots) top rate) d (length xs) x y rate none in
        reads-slots c rates marks slots top rate t.banked
        (is_number c rates marks slots top d (length xs) x y rate none) t.lasting r (stored d.accepted xs x)
        (d.accepted + 1) (position_of d.accepted y) (position-in-range t))
        ∙ ap (λ (v : ℕ). processed_by (held_at c (room_of rates marks slots) top rate) v d xs x y q)
        (as-reader c rates marks slots top d (length xs) x y rate h))

    pub chosen-ring : ring_chosen (bank_ok top) (lent_of c rates marks (length slots) top rate) d xs x y rate
        ≡ desk_ring c (room_of rates marks slots) top d xs x y rate
    chosen-ring =
        rw (lent-held c rates marks slots top rate)
        (ap (λ (v : ℕ). ring_after v d xs x) (as-reader c rates marks slots top d (length xs) x y rate h))

  module _ (h : room_ok rates marks ≡ false) where
    abbrev found : ℕ
    found = verdict (bank_ok top) (lent_of c rates marks (length slots) top rate) d (length xs) x y rate

    same_number : out_of_range found ≡ desk_verdict c (room_of rates marks slots) top d (length xs) x y rate
    same_number =
        rw (lent-held c rates marks slots top rate) (as-refused c rates marks slots top d (length xs) x y rate h)

    pub refused-call : (q : QualityMode) → refused_by (out_of_range found) d
        ≡ desk_call c (room_of rates marks slots) top d xs x y q rate
    refused-call q =
        not-processed (held_at c (room_of rates marks slots) top rate) (out_of_range found) same_number
        (some_number found) d xs x y _ q

    pub refused-ring : xs ≡ desk_ring c (room_of rates marks slots) top d xs x y rate
    refused-ring = same-ring (out_of_range found) same_number (some_number found) d xs x
