-- W11e. The delay of the inner reader at a phase between two host samples, in 000's order, each step rounded.
-- Definitions only.
use Rattle.std.specs.Prelude.{ℕ, pos, Float}
use Rattle.std.specs.Float.{binary64}
use Rattle.std.specs.Float.Ieee.{add, sub, mul, div, of_int}

abbrev pub num : ℕ → Float
num n = of_int binary64 (pos n)

-- 000's `(phase + 1) as f64 / FACTOR as f64`; `next` is phase + 1.
abbrev pub share_of : ℕ → ℕ → Float
share_of next factor = div binary64 (num next) (num factor)

-- 000's `previous + fraction * (delay - previous)`. At the last phase the fraction is 1, and the sum is often not the
-- delay itself.
abbrev pub delay_at : Float → Float → Float → Float
delay_at previous delay fraction = add binary64 previous (mul binary64 fraction (sub binary64 delay previous))

-- The inner reader runs at `factor` times the rate, so its delay is `factor` times that.
unfoldable pub high_delay : Float → Float → ℕ → ℕ → Float
high_delay previous delay next factor = mul binary64 (delay_at previous delay (share_of next factor)) (num factor)
