-- G6, T3. The bank's rates: how many sets there are for a maximum rate, and the rate of each. Definitions only.
use Rattle.std.specs.Prelude.{ℕ, ◌+◌, ◌-◌, ◌*◌, ◌/◌, max, Bool, true, false, cond, ◌&&◌, pos, negsuc, nat_lt, Float}
use Rattle.std.specs.Float.{nan, inf, fin, binary64}
use Rattle.std.specs.Float.Ieee.{up, down, add, sub, mul, div, le, of_int}
use Rattle.sinc_settings.specs.Ranges.{zero-f, one-f, two-f}

abbrev pub num : ℕ → Float
num n = of_int binary64 (pos n)

-- G6. A bank's rate lies from 1 to 2.
abbrev pub bank_ok : Float → Bool
bank_ok max-rate = le one-f max-rate && le max-rate two-f

-- 000's RATE_STEP is the f64 nearest to 0.02.
abbrev pub rate_step : Float
rate_step = fin false 5764607523034235 (negsuc 57)

-- The ceiling is the least whole number not below x; 0 if x is not above zero.
unfoldable pub ceiling_of : Float → ℕ
ceiling_of nan = 0
ceiling_of (inf s) = 0
ceiling_of (fin true m e) = 0
ceiling_of (fin false m e) = (m * up e + (down e - 1)) / down e

-- T3. How many sets a bank has: the ceiling of (max_rate - 1) / 0.02, at least 1.
unfoldable pub steps_of : Float → ℕ
steps_of max-rate = max 1 (ceiling_of (div binary64 (sub binary64 max-rate one-f) rate_step))

-- T3. The rate of set i, counted from 1, of `steps` sets, in 000's order: `1.0 + (max_rate - 1.0) * index / steps`.
unfoldable pub rate_of : Float → ℕ → ℕ → Float
rate_of max-rate steps i =
    add binary64 one-f (div binary64 (mul binary64 (sub binary64 max-rate one-f) (num i)) (num steps))

-- ---- what the public functions give, also out of range
abbrev pub sets_of : Float → ℕ
sets_of max-rate = cond (bank_ok max-rate) (steps_of max-rate) 0

abbrev pub set_rate_of : Float → ℕ → Float
set_rate_of max-rate set =
    cond (bank_ok max-rate && nat_lt set (steps_of max-rate)) (rate_of max-rate (steps_of max-rate) (set + 1)) zero-f
