-- W4, W7c, W7g. A desk's call that reports absent taps: the desk's own answer, with the absent taps of every reading
-- that its turn makes, and none if it is refused. A desk makes the readings that the quality reader makes over a bank
-- of its own for the same maximum rate, so their number is that reader's. Definitions only.
use Rattle.std.specs.Prelude.{List, length, Float}
use Rattle.told_call.specs.Told.{unless_refused}
use Rattle.quality_mode.specs.declared.QualityMode.{QualityMode}
use Rattle.quality_variable_delay.specs.declared.QualityVariableDelayF32.{QualityVariableDelayF32}
use Rattle.set_room.specs.Room.{Room}
use Rattle.desk_delay.specs.Desk.{Caller, desk_verdict, desk_call}
use Rattle.told_quality.specs.declared.ToldQ.{ToldQ}
use Rattle.told_quality.specs.Told.{with_absent, absent_of_call}

abbrev pub desk_told : Caller → Room → Float → QualityVariableDelayF32 → List Float → Float → Float → QualityMode
    → Float → ToldQ
desk_told c room top d xs x y q rate =
    with_absent (desk_call c room top d xs x y q rate)
    (unless_refused (desk_verdict c room top d (length xs) x y rate) (absent_of_call top d xs x y q rate))
