-- Going through the slots one after the other. Assumes nothing.
use mathlib.Core.Path.{◌≡◌, refl}
use mathlib.Core.Bool.{◌&&◌}
use mathlib.Core.List.{List, [], ◌∷◌}
use Prim.Native.Nat.{ℕ, zero, suc, ◌≤◌, ◌<◌}
use native.Mathlib.Omega.{arith}
use lib.ListN.{length, get_or, drop}
use lib.Seq.{drop-cons}
use lib.Ieee.{Float, nan, le}
use Rattle.sinc_settings.specs.Ranges.{two-f}
use Rattle.room_marks.specs.Search.{shorter}
use Rattle.desk_slots.specs.Rising.{rises, risen_to, rising_from}

no-marks : (low : Float) (rates : List Float) → rising_from low rates [] ≡ le low two-f
unfolding rising_from
no-marks low [] = refl
no-marks low (r ∷ rates) = refl

pub nothing_left : (low : Float) (rates : List Float) (marks : List ℕ) (i : ℕ) → shorter rates marks ≤ i
    → rising_from low (drop i rates) (drop i marks) ≡ le low two-f
unfolding rising_from
nothing_left low [] marks zero h = refl
nothing_left low [] marks (suc i) h = refl
nothing_left low (r ∷ rates) [] zero h = refl
nothing_left low (r ∷ rates) [] (suc i) h = no-marks low (drop i rates)
nothing_left low (r ∷ rates) (m ∷ marks) zero h = absurd (omega arith)
nothing_left low (r ∷ rates) (m ∷ marks) (suc i) h = nothing_left low rates marks i (omega arith)

pub slot-by-slot : (low : Float) (rates : List Float) (marks : List ℕ) (i : ℕ) → i < shorter rates marks
    → let r = get_or rates i nan in
    let m = get_or marks i 0 in
    rising_from low (drop i rates) (drop i marks)
    ≡ rises low r m && rising_from (risen_to low r m) (drop (suc i) rates) (drop (suc i) marks)
unfolding rising_from
slot-by-slot low rates marks i h =
    let l : i < length rates = omega arith in
    let k : i < length marks = omega arith in
    rw (drop-cons rates i nan l, drop-cons marks i 0 k)
