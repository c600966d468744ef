-- W7. What is counted of a sample is what a call that reports absent taps gives: the numbers of an accepted call depend
-- only on the ring's length, the count and the position. Assumes nothing.
use Rattle.std.proofs.Common.{◌≡◌, ℕ, ◌+◌, List, length, sym, ◌∙◌, length-set}
use lib.ListN.{length-replicate}
use lib.Ieee.{Float}
use Rattle.ring.specs.Length.{zeros}
use Rattle.variable_delay.specs.Reader.{stored, position_of}
use Rattle.absent_taps.proofs.Laws.{by_length}
use Rattle.told_call.specs.Told.{absent_of_call}
use Rattle.absent_report.specs.Samples.{absent_in}

pub as-told : (i : ℕ) (ring : List Float) (x y : Float) → absent_of_call i ring x y 32 ≡ absent_in (length ring) i y
as-told i ring x y =
    by_length (stored i ring x) (zeros (length ring))
    (length-set ring _ x ∙ sym (length-replicate (length ring) _)) (i + 1) (position_of i y) 32
