-- W4, W7c, W7h. What a desk's call through pointers leaves, with its absent taps by kind. Definitions only.
use Rattle.std.specs.Prelude.{ℕ, List, Float}
use Rattle.absent_taps.specs.declared.Absent.{Absent}
use Rattle.quality_codes.specs.declared.Coded.{Coded}
use Rattle.quality_codes.specs.Codes.{mode_of, decoded}
use Rattle.set_room.specs.Room.{Room}
use Rattle.desk_codes.specs.Calls.{desk_called, desk_left}
use Rattle.told_call.specs.Told.{unless_refused}
use Rattle.told_quality.specs.Told.{absent_of_call}
use Rattle.told_codes.specs.Left.{ToldLeft, leaves_told}

-- The absent taps of a desk's call on plain numbers, none if it is refused by whatever number.
abbrev pub desk_absent : ℕ → ℕ → Room → Float → Coded → List Float → Float → Float → ℕ → Float → Absent
desk_absent desk mode room max-rate s xs x y q playback-rate =
    unless_refused (desk_called desk mode room max-rate s xs x y q playback-rate).number
    (absent_of_call max-rate (decoded s) xs x y (mode_of q) playback-rate)

-- What the call without the numbers leaves, and the numbers.
abbrev pub desk_left_told : ℕ → ℕ → Room → Float → Coded → List Float → Float → Float → ℕ → Float → ToldLeft
desk_left_told desk mode room max-rate s xs x y q playback-rate =
    leaves_told (desk_left desk mode room max-rate s xs x y q playback-rate)
    (desk_absent desk mode room max-rate s xs x y q playback-rate)
