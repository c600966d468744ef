-- The same three numbers at once, as the code computes them: by how many of the taps lie below a bound. What is
-- promised stands in Absent.antt, which does not use them. Definitions only.
use Rattle.std.specs.Prelude.{ℕ, ◌+◌, ◌-◌, min, ℤ, pos, negsuc}
use Rattle.absent_taps.specs.declared.Absent.{Absent}
use Rattle.absent_taps.specs.declared.counting.Start.{Start}
use Rattle.absent_taps.specs.Absent.{absent_of}

-- A run from number z on: `low` numbers below 0, and then on from the number `from`.
abbrev pub start_of : ℤ → Start
start_of (pos i) = record { low = 0; from = i }
start_of (negsuc j) = record { low = j + 1; from = 0 }

-- The number of the first n numbers of such a run that lie below a bound.
abbrev pub below_of : ℕ → ℕ → ℕ → ℕ → ℕ
below_of low from bound n = min n (low + (bound - from))

-- A number below 0 is not yet written, and one from the count on is ahead. One that is not below 0 but is more than a
-- ring's length before the count is overwritten.
abbrev pub missing_of : ℕ → ℕ → Start → ℕ → Absent
missing_of len count s n =
    let unwritten = below_of s.low s.from 0 n in
    absent_of unwritten (n - below_of s.low s.from count n)
    (below_of s.low s.from (count - len) n - unwritten)
