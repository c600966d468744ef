-- W4e, W4f. A run of what two desks ask for and give up in a room, in any order. Definitions only.
use Rattle.std.specs.Prelude.{ℕ, ◌<◌, ◌≡◌, Bool, true, false, ◌&&◌, List, [], ◌∷◌, length, get_or, Float}
use Rattle.std.specs.Float.{nan, binary64}
use Rattle.std.specs.Float.Ieee.{fits, eq}
use Rattle.bessel.specs.declared.Mode.{Mode}
use Rattle.bessel.specs.declared.Mode.TheVariants.{Ported, Full}
use Rattle.sinc_bank_f32.specs.Sets.{set_in}
use Rattle.room_marks.specs.declared.Desk.{Desk}
use Rattle.room_marks.specs.Marks.{is_free, mode_in}
use Rattle.room_marks.specs.Slots.{some, own_set, room_ok}
use Rattle.room_marks.specs.Asking.{lengths_agree}
use Rattle.set_room.specs.Room.{Room, slot_of, asked_of, gave_up}

-- A desk asks for a set, or gives one up.
pub data Turn : Type 0 where
  asks gives : Desk → Float → Mode → Turn

abbrev pub after_turn : Room → Turn → Room
after_turn r (asks desk rate mode) = asked_of desk rate mode r
after_turn r (gives desk rate mode) = gave_up desk rate mode r

unfoldable pub after_turns : Room → List Turn → Room
after_turns r [] = r
after_turns r (t ∷ ts) = after_turns (after_turn r t) ts

-- Every rate that is handed in is an f64, as every one is that the code is handed.
abbrev pub rate_in : Turn → Float
rate_in (asks desk rate mode) = rate
rate_in (gives desk rate mode) = rate

abbrev pub f64s : List Turn → Bool
f64s [] = true
f64s (t ∷ ts) = fits binary64 (rate_in t) && f64s ts

-- A room in range, of which every held slot has the floats of its own rate and mode.
pub record Furnished (r : Room) : Type 0 where
  pub agree : lengths_agree r.rates r.marks (length r.slots) ≡ true
  pub whole : room_ok r.rates r.marks ≡ true
  pub f64 : (i : ℕ) → fits binary64 (get_or r.rates i nan) ≡ true
  pub sets : (i : ℕ) → i < length r.marks → is_free (get_or r.marks i 0) ≡ false
      → slot_of i r.slots ≡ set_in (mode_in (get_or r.marks i 0)) (get_or r.rates i nan)

-- ---- W4g. What a desk holds, by its own turns and what it was granted
abbrev pub same_mode : Mode → Mode → Bool
same_mode Ported Ported = true
same_mode Ported Full = false
same_mode Full Ported = false
same_mode Full Full = true

abbrev pub same_set : Float → Mode → Float → Mode → Bool
same_set rate mode r m = same_mode mode m && eq r rate

abbrev pub holds_in : Desk → Room → Float → Mode → Bool
holds_in desk room rate mode = some (own_set desk rate mode) room.rates room.marks
