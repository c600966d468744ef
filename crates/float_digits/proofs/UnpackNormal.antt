-- What `unpack` takes out of a normal value's pattern: the 52 digits below the exponent field with a 1 before them,
-- moved up ten places. Assumes nothing.
use mathlib.Core.Path.{◌≡◌}
use Prim.Native.Nat.{ℕ, ◌+◌, ◌-◌, ◌*◌, ◌/◌, ◌%◌, ◌^◌, ◌≤◌, ◌<◌}
use native.Mathlib.Nat.{lt_of_le_of_lt}
use native.Mathlib.Omega.{arith}
use lib.Ieee.{size}
use lib.Ieee.Digits.{size-lt, size-le}
use Rattle.rounding.proofs.NumberOrders.{pow_lt_back}
use Rattle.float_digits.specs.Pattern.{digits_of, unpacked}

module _ (n : ℕ) (N : 2 ^ 52 ≤ n % 2 ^ 63) where
  digits : digits_of n ≡ n % 2 ^ 52 + 2 ^ 52
  digits = omega arith

  sized : size (digits_of n) ≡ 53
  sized =
      let a : size (digits_of n) ≤ 53 = size-le (digits_of n) 53 (omega arith) in
      let b : 52 < size (digits_of n) =
      pow_lt_back 52 (size (digits_of n)) (lt_of_le_of_lt (omega arith) (size-lt (digits_of n))) in
      omega arith

  pub normal-place : (unpacked n).e ≡ n % 2 ^ 63 / 2 ^ 52 + 52
  normal-place = omega (arith, sized)

  pub normal-digits : (unpacked n).m ≡ (n % 2 ^ 52 + 2 ^ 52) * 2 ^ 10
  normal-digits =
      let ten : 63 - size (digits_of n) ≡ 10 = omega (arith, sized) in
      rw (ten, digits)
