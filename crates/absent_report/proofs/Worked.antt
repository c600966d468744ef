-- W7. A delay of 512 samples in the ring of 65536: of the 32 taps that frame i reads, the first is number i - 527. So
-- frame 526 is the last that lacks a tap, and a constant delay has 527 such samples. Assumes nothing.
use Rattle.std.proofs.Common.{◌≡◌, ℕ, ◌+◌, false, pos, refl, ◌∙◌}
use lib.ListN.{length-replicate}
use lib.Ieee.{Float, fin, sub, of_int}
use Rattle.integer_part.specs.Parts.{floor_of}
use Rattle.ring.specs.Length.{zeros}
use Rattle.variable_delay.specs.Reader.{position_of}
use Rattle.absent_taps.specs.Absent.{absent_of, first_tap}
use Rattle.absent_taps.specs.Inner.{start_of, missing_of}
use Rattle.absent_taps.proofs.AtOnce.{at_once}
use Rattle.absent_report.specs.Samples.{absent_in}

abbrev delay : Float
delay = fin false 1 (pos 9)

at : (i : ℕ) → absent_in 65536 i delay ≡ missing_of 65536 (i + 1) (start_of (first_tap (position_of i delay) 32)) 32
at i = at_once (zeros 65536) (i + 1) (first_tap (position_of i delay) 32) 32 ∙ rw (length-replicate 65536 _)

pub first-sample : absent_in 65536 0 delay ≡ absent_of 32 0 0
unfolding floor_of sub of_int
first-sample = at 0 ∙ refl

pub last-that-lacks : absent_in 65536 526 delay ≡ absent_of 1 0 0
unfolding floor_of sub of_int
last-that-lacks = at 526 ∙ refl

pub first-that-lacks-none : absent_in 65536 527 delay ≡ absent_of 0 0 0
unfolding floor_of sub of_int
first-that-lacks-none = at 527 ∙ refl
