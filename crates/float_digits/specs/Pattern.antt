-- K4, K5. What `is_plain`, `unpack`, `sticky` and `pack` compute, for every input. The laws `scaling` and
-- `packed-rounds` say what it means. Definitions only.
use Rattle.std.specs.Prelude.{Bool, true, false, cond, ℕ, zero, suc, ◌+◌, ◌-◌, ◌*◌, ◌/◌, ◌%◌, ◌^◌, ltb, eqb, Float}
use Rattle.std.specs.Float.{nan, inf, fin, binary64}
use Rattle.std.specs.Float.Ieee.{size, of_bits}
use Rattle.std.specs.Float.Ieee.Nearest.{closest}
use Rattle.float_digits.specs.declared.Scaled.{Scaled}

-- x is finite and not zero.
abbrev pub plain : Float → Bool
plain nan = false
plain (inf s) = false
plain (fin s zero e) = false
plain (fin s (suc m) e) = true

-- How many places above the smallest value a pattern's digits stand: the exponent field less 1, where a field of 0
-- counts as 1.
abbrev pub place_of : ℕ → ℕ
place_of n = n % 2 ^ 63 / 2 ^ 52 - 1

-- The digits: the 52 below the exponent field, and before them a 1 if the field is not 0.
abbrev pub digits_of : ℕ → ℕ
digits_of n = n % 2 ^ 63 - place_of n * 2 ^ 52

-- The sign bit; the digits, moved up until there are 63; and their place, counted from 2 ^ -1137. A zero is read as
-- zeros, an infinity or a NaN as a number one field above the largest.
abbrev pub unpacked : ℕ → Scaled
unpacked n = record {
  s = n / 2 ^ 63;
  m = digits_of n * 2 ^ (63 - size (digits_of n));
  e =
      place_of n + size (digits_of n);
}

-- w if nothing was cut off, and otherwise w made odd.
abbrev pub with_sticky : ℕ → ℕ → ℕ
with_sticky w rest = cond (eqb rest 0) w (w + (1 - w % 2))

-- A quarter of w's last 55 digits, rounded to the nearest whole number, a tie to even, with k in the exponent field;
-- infinity from k = 2046 on.
abbrev pub magnitude_of : ℕ → ℕ → ℕ
magnitude_of w k = cond (ltb k 2046) (k * 2 ^ 52 + closest (w % 2 ^ 55) 4) 0x7ff0_0000_0000_0000

-- The value with that pattern; its sign is the last digit of s.
abbrev pub packed : ℕ → ℕ → ℕ → Float
packed s w k = of_bits binary64 (s % 2 * 2 ^ 63 + magnitude_of w k)
