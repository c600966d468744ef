-- W3g, W9h. What a whole stretch of the quality reader through pointers leaves, with its absent taps by kind.
-- Definitions only.
use Rattle.std.specs.Prelude.{ℕ, ◌&&◌, cond, List, Float}
use Rattle.absent_taps.specs.declared.Absent.{Absent}
use Rattle.absent_taps.specs.Absent.{none}
use Rattle.quality_codes.specs.declared.Coded.{Coded}
use Rattle.quality_codes.specs.Codes.{mode_of, code_ok, decoded, fields_ok}
use Rattle.quality_codes.specs.Left.{Changed}
use Rattle.coded_stretch.specs.Coded.{Left, left_of, changed_by}
use Rattle.told_quality_stretch.specs.Told.{stretch_absent}

pub record ToldLeft : Type 0 where
  pub left : Left Changed
  pub absent : Absent

abbrev pub leaves_told : Left Changed → Absent → ToldLeft
leaves_told left absent = record { left = left; absent = absent }

-- The sums over the items done, and none if a number names nothing.
abbrev pub absent_coded : List Float → Float → ℕ → Float → Coded → List Float → List Float → List Float → List Float
    → Absent
absent_coded sets max-rate q rate s ring inputs delays out =
    cond (code_ok q && fields_ok s) (stretch_absent sets max-rate (mode_of q) rate (decoded s) ring inputs delays out)
    none

-- What the stretch without the numbers leaves, and the numbers.
abbrev pub told_of : List Float → Float → ℕ → Float → Coded → List Float → List Float → List Float → List Float
    → ToldLeft
told_of sets max-rate q rate s ring inputs delays out =
    leaves_told (changed_by (left_of sets max-rate q rate s ring inputs delays out))
    (absent_coded sets max-rate q rate s ring inputs delays out)
