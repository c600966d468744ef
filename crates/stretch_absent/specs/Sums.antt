-- W3g. The absent taps of a stretch of a delay reader, summed over the items done. Definitions only.
use Rattle.std.specs.Prelude.{ℕ, ◌+◌, min, ◌&&◌, cond, List, leb, length, get_or, Float}
use Rattle.std.specs.Float.{nan}
use Rattle.constants.specs.Numbers.{limit}
use Rattle.ring.specs.Length.{zeros}
use Rattle.variable_delay.specs.Reader.{position_of}
use Rattle.variable_delay.specs.declared.VariableDelay.{VariableDelay}
use Rattle.absent_taps.specs.declared.Absent.{Absent}
use Rattle.absent_taps.specs.Absent.{none, absent_at}
use Rattle.told_call.specs.Told.{absent_of_call}
use Rattle.stretch.specs.Counts.{Absence}
use Rattle.stretch.specs.Singles.{sum_of}

-- The absent taps of an accepted item whose kernel reads n taps, as those of a single call.
abbrev pub absence : ℕ → Absence VariableDelay
absence n d ring x y = absent_of_call d.accepted ring x y n

-- The same of item k, from the ring's length and the number of samples accepted before the stretch (W7e).
abbrev pub item_absent : ℕ → ℕ → List Float → ℕ → ℕ → Absent
item_absent len before ds taps k =
    absent_at (zeros len) (before + k + 1) (position_of (before + k) (get_or ds k nan)) taps

-- The sums over the first `done` items. For more than 128 taps, or past 2^36 samples, there is no such stretch, and
-- they are three zeros; otherwise no sum exceeds 2^43.
abbrev pub sums_of : ℕ → ℕ → List Float → ℕ → ℕ → Absent
sums_of len before ds done taps =
    let n = min done (length ds) in
    cond (leb taps 128 && leb (before + n) limit) (sum_of (item_absent len before ds taps) n) none
