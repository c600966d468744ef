-- K1. Where a run of taps starts in a ring, for the fast paths of the kernels: taps that are all held are read side by
-- side. It is no part of what a kernel promises, which stands in Taps.antt. Definitions only.
use Rattle.std.specs.Prelude.{ℕ, ◌+◌, ◌%◌, Bool, true, false, ◌&&◌, cond, leb, eqb, ℤ, pos, negsuc}
use Rattle.ring.specs.declared.Start.{Start}

-- The place of an index is the index modulo the length, and 0 in an empty ring.
abbrev pub place_of : ℕ → ℕ → ℕ
place_of index len = cond (eqb len 0) 0 (index % len)

abbrev pub pick_start : Bool → Start → Start → Start
pick_start true a b = a
pick_start false a b = b

-- Whether all of `taps` taps from an index on are held, and the place of the first.
abbrev pub start_of : ℕ → ℕ → ℤ → ℕ → Start
start_of len count (negsuc k) taps = record { held = false; place = 0 }
start_of len count (pos k) taps =
    pick_start (leb (k + taps) count && leb count (k + len)) (record { held = true; place = place_of k len })
    (record { held = false; place = 0 })
