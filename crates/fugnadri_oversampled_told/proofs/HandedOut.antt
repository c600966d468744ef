-- What an export leaves follows from what the reader that reports absent taps and the writing of its answer ensure.
-- Assumes nothing.
use mathlib.Core.Path.{◌≡◌}
use mathlib.Core.List.{List}
use Prim.Native.Nat.{ℕ}
use lib.Ieee.{Float}
use Rattle.absent_taps.specs.Absent.{absent_of}
use Rattle.answer.specs.Answers.{number_of, value_of}
use Rattle.oversampled_codes.specs.Codes.{numbers}
use Rattle.oversampled_codes.specs.Left.{leaves, held_once, direct_left}
use Rattle.oversampled_codes.specs.CascadedLeft.{held_twice, cascaded_left}
use Rattle.told_oversampled.specs.declared.Told.{Told}
use Rattle.told_oversampled.specs.declared.ToldTwice.{ToldTwice}
use Rattle.told_oversampled.specs.Direct as direct
use Rattle.told_oversampled.specs.Cascaded as cascaded
use Rattle.fugnadri_oversampled_told.specs.Exports.{tells}

pub direct-told : (p : Told) (t : direct.ToldLeft) {n w : ℕ} {v : Float} {up down ring : List Float}
    → direct.leaves_told (direct.leaves_once p.state p.answer up down ring) p.absent ≡ t
    → (n ≡ number_of p.answer) × ((v ≡ value_of p.answer) × (w ≡ p.state.accepted))
    → tells (leaves n v (numbers w p.state.inner p.state.previous) (held_once up down ring))
    (absent_of p.absent.unwritten p.absent.ahead p.absent.overwritten)
    ≡ tells (direct_left t.left) t.absent
direct-told p t e h = rw (h.0, h.1.0, h.1.1, ← e)

pub cascaded-told : (p : ToldTwice) (t : cascaded.ToldLeft) {n w : ℕ} {v : Float}
    {up1 up2 down2 down1 ring : List Float}
    → cascaded.leaves_told (cascaded.leaves_twice p.state p.answer up1 up2 down2 down1 ring) p.absent ≡ t
    → (n ≡ number_of p.answer) × ((v ≡ value_of p.answer) × (w ≡ p.state.accepted))
    → tells (leaves n v (numbers w p.state.inner p.state.previous) (held_twice up1 up2 down2 down1 ring))
    (absent_of p.absent.unwritten p.absent.ahead p.absent.overwritten)
    ≡ tells (cascaded_left t.left) t.absent
cascaded-told p t e h = rw (h.0, h.1.0, h.1.1, ← e)
