-- W4, N1. A room's calls on plain numbers: a desk's number is 1 or 2, a mode's 0 or 1. Any other is an argument out of
-- its range, refused by 1 with nothing changed. Definitions only.
use Rattle.std.specs.Prelude.{ℕ, Bool, cond, ◌&&◌, Float}
use Rattle.bessel.specs.Modes.{mode_of, known_code}
use Rattle.room_marks.specs.Marks.{desk_of, known_desk}
use Rattle.set_room.specs.declared.Asked.{Asked}
use Rattle.set_room.specs.declared.Asked.TheVariants.{Granted, Refused}
use Rattle.set_room.specs.Room.{Room, grant_of, number_of, asked_of, give_up_due, gave_up}

abbrev pub named : ℕ → ℕ → Bool
named desk mode = known_desk desk && known_code mode

-- What a call leaves: its number, the slot that it writes, and the room.
pub record Left : Type 0 where
  pub number : ℕ
  pub slot : ℕ
  pub room : Room

abbrev pub leaves : ℕ → ℕ → Room → Left
leaves number slot room = record { number = number; slot = slot; room = room }

-- The granted slot, 0 if the ask is refused.
abbrev pub slot_in : Asked → ℕ
slot_in (Granted k) = k
slot_in (Refused n) = 0

abbrev pub ask_left : ℕ → Float → ℕ → Room → Left
ask_left desk rate mode r =
    cond (named desk mode)
    (leaves (number_of (grant_of rate (mode_of mode) r)) (slot_in (grant_of rate (mode_of mode) r))
    (asked_of (desk_of desk) rate (mode_of mode) r))
    (leaves 1 0 r)

abbrev pub give_up_number : ℕ → Float → ℕ → Room → ℕ
give_up_number desk rate mode r = cond (named desk mode) (give_up_due (desk_of desk) rate (mode_of mode) r) 1

abbrev pub given_up_room : ℕ → Float → ℕ → Room → Room
given_up_room desk rate mode r = cond (named desk mode) (gave_up (desk_of desk) rate (mode_of mode) r) r
