-- K4. How a biased sum begins: with the bias for the power of two near it, if there is one. The start is fine if the
-- biased sum lies between that bias's ends. Definitions only.
use Rattle.std.specs.Prelude.{Bool, true, false, not, ◌&&◌, cond, ℕ, ◌+◌, ◌-◌, ◌/◌, ◌%◌, ◌^◌, leb, Float}
use Rattle.std.specs.Float.{binary64}
use Rattle.std.specs.Float.Ieee.{round, add, to_bits, of_bits, is_nan}
use Rattle.biased_sum.specs.declared.Ends.{Ends}
use Rattle.biased_sum.specs.declared.Start.{Start}
use Rattle.biased_sum.specs.Biased.{bias-of, near_of, far-of}
use Rattle.biased_sum.specs.Sums.{taken}

-- The sign bit and the exponent field, as an f64's pattern has them, of the power of two near x: from about 1.414 times
-- a power on, that is the next one.
abbrev pub power_of : Float → ℕ
power_of x = (to_bits binary64 x + 0x0009_5f62_0000_0000) / 0x0010_0000_0000_0000

-- A number has a bias if the power near it is one from 2 ^ -124 to 2 ^ 125.
abbrev pub has_bias : Float → Bool
has_bias x = not (is_nan x) && (leb 899 (power_of x % 2048) && leb (power_of x % 2048) 1148)

-- The bias with the sign s for an f32 whose last digit is 2 ^ (k - 149), and its ends, the lower one first.
unfoldable pub ends_for : Bool → ℕ → Ends
ends_for s k = record {
  bias = round binary64 s (bias-of k) (2 ^ 1074);
  low = round binary64 s (cond s (far-of k) (near_of k)) (2 ^ 1074);
  high = round binary64 s (cond s (near_of k) (far-of k)) (2 ^ 1074);
}

-- The start of a sum at x with these ends.
abbrev pub biased_by : Ends → Float → Start
biased_by e x = record {
  fine = taken e.low e.high (add binary64 x e.bias);
  bias = e.bias;
  low = e.low;
  high = e.high;
  sum = add binary64 x e.bias;
}

-- The start for a number that has no bias.
abbrev pub no_bias : Start
no_bias = record {
  fine = false;
  bias = of_bits binary64 0;
  low = of_bits binary64 0;
  high = of_bits binary64 0;
  sum = of_bits binary64 0;
}

abbrev pub pick_start : Bool → Start → Start → Start
pick_start true a b = a
pick_start false a b = b

abbrev pub with_bias : Float → Start
with_bias x = pick_start (has_bias x) (biased_by (ends_for (leb 2048 (power_of x)) (power_of x % 2048 - 898)) x) no_bias
