-- The numbers that the code computes from the counts before and after a desk's call are the call's absent taps: its
-- verdict refuses a maximum rate out of range, and that is all that the quality reader's law asks of a verdict. Assumes
-- nothing.
use mathlib.Core.Path.{◌≡◌, ap}
use mathlib.Core.Bool.{true, not, ◌&&◌}
use mathlib.Core.List.{List}
use Prim.Native.Nat.{ℕ}
use lib.Dec.{eqb, leb, ltb}
use lib.ListN.{length}
use lib.Ieee.{Float, le, is_nan}
use lib.Ieee.Bits.{is_true}
use lib.Ieee.Fits.{and_r}
use lib.Ieee.Scale.{finite}
use Rattle.constants.specs.Numbers.{zero-f, limit, limit-f}
use Rattle.answer.proofs.Passed.{passed}
use Rattle.ring.specs.Length.{settings_ok, length_for}
use Rattle.absent_taps.specs.declared.Absent.{Absent}
use Rattle.bank_choice.specs.Rates.{bank_ok}
use Rattle.bank_choice.specs.Inner.{choice_of}
use Rattle.quality_mode.specs.declared.QualityMode.{QualityMode}
use Rattle.quality_fade.specs.Fade.{length_ok}
use Rattle.returning_fade.specs.Rules.{place_ok}
use Rattle.returning_fade.specs.Step.{step_of}
use Rattle.quality_variable_delay.specs.State.{fade_part}
use Rattle.quality_variable_delay.specs.declared.QualityVariableDelayF32.{QualityVariableDelayF32}
use Rattle.quality_variable_delay.specs.declared.ProcessedQ.{ProcessedQ}
use Rattle.room_marks.specs.Slots.{room_ok}
use Rattle.set_room.specs.Room.{Room}
use Rattle.desk_delay.specs.Desk.{Caller, sets_held, desk_verdict, desk_call}
use Rattle.told_quality.specs.Told.{with_absent}
use Rattle.told_quality.specs.Inner.{counted_of}
use Rattle.told_quality.proofs.ByCounts.{by-bank}
use Rattle.told_desk.specs.Told.{desk_told}

module _ (c : Caller) (room : Room) (top : Float) (d : QualityVariableDelayF32) where
  pub in-range : (len : ℕ) (x y rate : Float) → desk_verdict c room top d len x y rate ≡ 0 → bank_ok top ≡ true
  in-range len x y rate h =
      let settings = settings_ok d.maximum d.margin in
      let fade = length_ok d.crossfade_samples in
      let p =
      passed (settings && (fade && bank_ok top))
      (eqb len (length_for d.maximum d.margin) && sets_held c room top rate)
      ((leb d.accepted limit && place_ok (fade_part d)) && room_ok room.rates room.marks) (finite x)
      (finite y && le zero-f y) (le y limit-f) (not (is_nan rate)) (ltb d.accepted limit) h in
      is_true (bank_ok top) (and_r fade (bank_ok top) (and_r settings (fade && bank_ok top) p.p1))

  pub told : (xs : List Float) (x y : Float) (q : QualityMode) (rate : Float) (p : ProcessedQ) (s : Absent)
      → p ≡ desk_call c room top d xs x y q rate
      → s ≡ counted_of (length xs) d.accepted p.state.accepted y (choice_of top rate)
      (step_of (fade_part d) q).turn → with_absent p s ≡ desk_told c room top d xs x y q rate
  told xs x y q rate p s e h =
      rw (h, e)
      (ap (with_absent (desk_call c room top d xs x y q rate))
      (by-bank top d xs x y q rate _ (in-range (length xs) x y rate)))
