-- W12e. The rate of an AIFF. An 80-bit extended number has a field of 2 bytes, whose first bit is the sign and whose
-- other 15 are the exponent, and 8 bytes of digits, including the leading one. Without a sign it is digits · 2^(field -
-- 16446): 16446 is the exponent's bias 16383 plus the 63 digits behind the leading one. Definitions only.
use Rattle.std.specs.Prelude.{ℕ, ◌*◌, ◌/◌, ◌^◌, Bool, cond, ◌&&◌, eqb, leb, ltb}

abbrev pub in_range : ℕ → Bool
in_range rate = leb 8000 rate && leb rate 768000

-- The number is the rate `rate`: it has no sign, the rate is in range, and the equation holds in whole numbers, where
-- `one` is the exponent of a 1. An exponent of ones only, which an infinity and a NaN have, and digits that are not
-- normalised need no case of their own.
abbrev pub is_rate_by : ℕ → ℕ → ℕ → ℕ → Bool
is_rate_by one field digits rate =
    ltb field 0x8000 && (in_range rate && eqb (digits * 2 ^ field) (rate * 2 ^ one))

-- The rate that the number is, or 0.
unfoldable pub rate_by : ℕ → ℕ → ℕ → ℕ
rate_by one field digits =
    let rate = digits * 2 ^ field / 2 ^ one in cond (is_rate_by one field digits rate) rate 0

abbrev pub is_rate : ℕ → ℕ → ℕ → Bool
is_rate field digits rate = is_rate_by 16446 field digits rate

abbrev pub rate_of : ℕ → ℕ → ℕ
rate_of field digits = rate_by 16446 field digits
