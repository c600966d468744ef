-- G1, K1. How long a lent ring must be, and what it holds when a reader is opened. Definitions only.
use Rattle.std.specs.Prelude.{ℕ, ◌+◌, ◌-◌, ◌*◌, ◌^◌, Bool, List, leb, replicate, Float}
use Rattle.std.specs.Float.Ieee.{size}
use Rattle.constants.specs.Numbers.{zero-f}

-- The sum that 01 names: maximum delay + 2 × margin + 8.
abbrev pub need : ℕ → ℕ → ℕ
need maximum margin = maximum + 2 * margin + 8

-- The length of a ring: that sum raised to the next power of two. `size` counts binary digits.
unfoldable pub length_for : ℕ → ℕ → ℕ
length_for maximum margin = 2 ^ size (need maximum margin - 1)

-- The settings are in range if the sum is at most 2^24. As 2^24 is a power of two, the length is at most 2^24 in
-- exactly these cases.
abbrev pub settings_ok : ℕ → ℕ → Bool
settings_ok maximum margin = leb (need maximum margin) (2 ^ 24)

-- K1. Opening a reader writes +0.0 to every place of the ring.
abbrev pub zeros : ℕ → List Float
zeros n = replicate n zero-f
