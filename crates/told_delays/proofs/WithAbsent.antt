-- A reader's answer p and the numbers s that were counted beside it are what a call that reports absent taps gives, in
-- either width. Assumes nothing.
use mathlib.Core.Path.{◌≡◌, ap}
use mathlib.Core.Bool.{Bool}
use mathlib.Core.List.{List}
use Prim.Native.Nat.{ℕ}
use lib.ListN.{length}
use lib.Ieee.{Float}
use Rattle.variable_delay.specs.Reader.{Reading, verdict, processed_by}
use Rattle.variable_delay.specs.declared.VariableDelay.{VariableDelay}
use Rattle.variable_delay.specs.declared.Processed.{Processed}
use Rattle.variable_delay_f32.specs.Call.{processed_f32_by}
use Rattle.variable_delay_f32.specs.declared.ProcessedF32.{ProcessedF32}
use Rattle.absent_taps.specs.declared.Absent.{Absent}
use Rattle.told_call.specs.Told.{counted_of}
use Rattle.told_call.proofs.ByCounts.{by-counts}
use Rattle.told_delays.specs.Told.{with_absent, with_absent_f32, told_by, told_f32_by}

module _ (read : Reading) (n : ℕ) (own lent : Bool) (d : VariableDelay) (xs : List Float) (x y : Float) where
  abbrev v : ℕ
  v = verdict own lent d (length xs) x y

  pub told : (p : Processed) (s : Absent) → p ≡ processed_by read v d xs x y
      → s ≡ counted_of (length xs) d.accepted p.state.accepted y n
      → with_absent p s ≡ told_by read n v d xs x y
  told p s e f = rw (f, e) (ap (with_absent (processed_by read v d xs x y)) (by-counts v d xs x y n))

  pub told-f32 : (p : ProcessedF32) (s : Absent) → p ≡ processed_f32_by read v d xs x y
      → s ≡ counted_of (length xs) d.accepted p.state.accepted y n
      → with_absent_f32 p s ≡ told_f32_by read n v d xs x y
  told-f32 p s e f = rw (f, e) (ap (with_absent_f32 (processed_f32_by read v d xs x y)) (by-counts v d xs x y n))
