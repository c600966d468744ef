-- What an export leaves follows from what the reader p and the writing of its answer ensure, in either width. Assumes
-- nothing.
use mathlib.Core.Path.{◌≡◌}
use mathlib.Core.List.{List}
use Prim.Native.Nat.{ℕ}
use lib.Ieee.{Float}
use Rattle.answer.specs.Answers.{number_of, value_of, number_f32_of, value_f32_of}
use Rattle.told_delays.specs.declared.Told.{Told}
use Rattle.told_delays.specs.declared.ToldF32.{ToldF32}
use Rattle.absent_taps.specs.Absent.{absent_of}
use Rattle.fugnadri_told.specs.Exports.{leaves, left_told, left_told_f32}

pub left : (p q : Told) {n w : ℕ} {v : Float} {xs ys : List Float} → (p ≡ q) × (xs ≡ ys)
    → (n ≡ number_of p.answer) × ((v ≡ value_of p.answer) × (w ≡ p.state.accepted))
    → leaves n v w xs (absent_of p.absent.unwritten p.absent.ahead p.absent.overwritten) ≡ left_told q ys
left p q e h = rw (h.0, h.1.0, h.1.1, e.0, e.1)

pub left-f32 : (p q : ToldF32) {n w : ℕ} {v : Float} {xs ys : List Float} → (p ≡ q) × (xs ≡ ys)
    → (n ≡ number_f32_of p.answer) × ((v ≡ value_f32_of p.answer) × (w ≡ p.state.accepted))
    → leaves n v w xs (absent_of p.absent.unwritten p.absent.ahead p.absent.overwritten) ≡ left_told_f32 q ys
left-f32 p q e h = rw (h.0, h.1.0, h.1.1, e.0, e.1)
