-- W4. The slots of a room, as two lists with an element a slot, their rates and their marks. Definitions only.
use Rattle.std.specs.Prelude.{ℕ, suc, Bool, true, false, not, cond, ◌&&◌, ◌||◌, List, [], ◌∷◌, Float}
use Rattle.std.specs.Float.Ieee.{eq}
use Rattle.bessel.specs.declared.Mode.{Mode}
use Rattle.sinc_settings.specs.Ranges.{rate_ok}
use Rattle.room_marks.specs.declared.Desk.{Desk}
use Rattle.room_marks.specs.Marks.{mark_ok, is_free, held_by, in_mode, mode_in}

-- Whether some slot passes a test on its rate and its mark.
unfoldable pub some : (Float → ℕ → Bool) → List Float → List ℕ → Bool
some test [] marks = false
some test (r ∷ rates) [] = false
some test (r ∷ rates) (m ∷ marks) = test r m || some test rates marks

-- The place of the first slot that passes a test, counted from 0; the number of slots if none does.
unfoldable pub first_slot : (Float → ℕ → Bool) → List Float → List ℕ → ℕ
first_slot test [] marks = 0
first_slot test (r ∷ rates) [] = 0
first_slot test (r ∷ rates) (m ∷ marks) = cond (test r m) 0 (suc (first_slot test rates marks))

-- ---- the three tests of a slot with the rate r and the mark m

abbrev pub free : Float → ℕ → Bool
free r m = is_free m

-- W4b. It has the set of a rate and a mode, whoever holds it. Two rates from 1 to 2 compare equal only if they are the
-- same float, because there is no zero among them (`same-rate`).
abbrev pub has_set : Float → Mode → Float → ℕ → Bool
has_set rate mode r m = not (is_free m) && (in_mode mode m && eq rate r)

-- This desk holds it.
abbrev pub own_set : Desk → Float → Mode → Float → ℕ → Bool
own_set desk rate mode r m = held_by desk m && (in_mode mode m && eq rate r)

-- ---- W4j. Which rooms are in range: every mark says something, a held slot's rate is from 1 to 2, and no two held
-- slots have the same rate and mode.
abbrev pub slot_ok : Float → ℕ → Bool
slot_ok r m = mark_ok m && (is_free m || rate_ok r)

abbrev pub again : Float → ℕ → List Float → List ℕ → Bool
again r m rates marks = not (is_free m) && some (has_set r (mode_in m)) rates marks

unfoldable pub room_ok : List Float → List ℕ → Bool
room_ok [] marks = true
room_ok (r ∷ rates) [] = true
room_ok (r ∷ rates) (m ∷ marks) = slot_ok r m && (not (again r m rates marks) && room_ok rates marks)
