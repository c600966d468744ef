-- A quick test of a room: whether the rates of its held slots rise from slot to slot, as they do where a desk has asked
-- for a bank's sets in their order. What is promised of a room is room_marks' `room_ok`. Definitions only.
use Rattle.std.specs.Prelude.{ℕ, Bool, cond, ◌&&◌, ◌||◌, List, [], ◌∷◌, Float}
use Rattle.std.specs.Float.Ieee.{lt, le}
use Rattle.sinc_settings.specs.Ranges.{two-f}
use Rattle.room_marks.specs.Marks.{mark_ok, is_free}

-- A slot with the rate r and the mark m lets them rise from above `low`: it is free, or its rate is greater.
abbrev pub rises : Float → Float → ℕ → Bool
rises low r m = is_free m || (mark_ok m && lt low r)

-- The greatest rate behind it.
abbrev pub risen_to : Float → Float → ℕ → Float
risen_to low r m = cond (is_free m) low r

-- The rates rise from above `low`, and end at 2 at most.
unfoldable pub rising_from : Float → List Float → List ℕ → Bool
rising_from low [] marks = le low two-f
rising_from low (r ∷ rates) [] = le low two-f
rising_from low (r ∷ rates) (m ∷ marks) = rises low r m && rising_from (risen_to low r m) rates marks
