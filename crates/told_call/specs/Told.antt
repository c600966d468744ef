-- W7c, W7h. The absent taps that a call reports. Definitions only.
use Rattle.std.specs.Prelude.{ℕ, zero, suc, ◌+◌, cond, List, ◌==◌, Float}
use Rattle.ring.specs.Length.{zeros}
use Rattle.variable_delay.specs.Reader.{stored, position_of}
use Rattle.absent_taps.specs.declared.Absent.{Absent}
use Rattle.absent_taps.specs.Absent.{none, absent_at}

-- A refused call reads nothing, so it has no absent taps.
abbrev pub unless_refused : ℕ → Absent → Absent
unless_refused zero s = s
unless_refused (suc k) s = none

-- The absent taps among the n that an accepted call reads, from the ring with its sample stored and at its position. i
-- is the number of samples accepted before it.
abbrev pub absent_of_call : ℕ → List Float → Float → Float → ℕ → Absent
absent_of_call i xs x y n = absent_at (stored i xs x) (i + 1) (position_of i y) n

-- The same from a ring's length and the counts before and after the call, as the code computes it.
abbrev pub counted_of : ℕ → ℕ → ℕ → Float → ℕ → Absent
counted_of len before after y n =
    cond (before == after) none (absent_at (zeros len) after (position_of before y) n)
