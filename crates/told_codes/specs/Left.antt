-- W7c, W7g, W7h. What a call of the quality reader through pointers leaves, with its absent taps by kind. Definitions
-- only.
use Rattle.std.specs.Prelude.{ℕ, List, Float}
use Rattle.absent_taps.specs.declared.Absent.{Absent}
use Rattle.answer_parts.specs.Left.{Left}
use Rattle.quality_codes.specs.declared.Coded.{Coded}
use Rattle.quality_codes.specs.Codes.{mode_of, decoded}
use Rattle.quality_codes.specs.Calls.{called_of}
use Rattle.quality_codes.specs.Left as plain
use Rattle.told_call.specs.Told.{unless_refused}
use Rattle.told_quality.specs.Told.{absent_of_call}

pub record ToldLeft : Type 0 where
  pub left : Left Float plain.Changed
  pub absent : Absent

abbrev pub leaves_told : Left Float plain.Changed → Absent → ToldLeft
leaves_told left absent = record { left = left; absent = absent }

-- The absent taps of a call on plain numbers, none if it is refused by whatever number.
abbrev pub absent_called : List Float → Float → Coded → List Float → Float → Float → ℕ → Float → Absent
absent_called sets max-rate s xs x y q playback-rate =
    unless_refused (called_of sets max-rate s xs x y q playback-rate).number
    (absent_of_call max-rate (decoded s) xs x y (mode_of q) playback-rate)

-- What the call without the numbers leaves, and the numbers.
abbrev pub left_by : List Float → Float → Coded → List Float → Float → Float → ℕ → Float → ToldLeft
left_by sets max-rate s xs x y q playback-rate =
    leaves_told (plain.left_by sets max-rate s xs x y q playback-rate)
    (absent_called sets max-rate s xs x y q playback-rate)
