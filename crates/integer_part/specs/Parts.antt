-- K3. The integer part of a position is its floor towards minus infinity; the fraction is the position minus it,
-- rounded. Definitions only.
use Rattle.std.specs.Prelude.{◌+◌, ◌-◌, ◌*◌, ◌/◌, ◌^◌, min, true, false, cond, ℤ, pos, neg_ℤ, Float}
use Rattle.std.specs.Float.{nan, inf, fin, binary64}
use Rattle.std.specs.Float.Ieee.{up, down, sub, of_int}

-- Rust's `x.floor() as i64`. Below zero the quotient is rounded away from zero. Outside of i64 it is the nearer end of
-- its range, and at a NaN 0.
unfoldable pub floor_of : Float → ℤ
floor_of nan = pos 0
floor_of (inf s) = cond s (neg_ℤ (pos (2 ^ 63))) (pos (2 ^ 63 - 1))
floor_of (fin false m e) = pos (min (m * up e / down e) (2 ^ 63 - 1))
floor_of (fin true m e) = neg_ℤ (pos (min ((m * up e + (down e - 1)) / down e) (2 ^ 63)))

-- 000's `position - integer as f64`. The rounding may carry it to exactly 1.
unfoldable pub fraction_of : Float → Float
fraction_of x = sub binary64 x (of_int binary64 (floor_of x))
