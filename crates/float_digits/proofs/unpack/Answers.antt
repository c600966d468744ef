-- `float_digits::unpack` meets its contract: leading zeros and digits together fill a word. Assumes nothing.
use native.Mathlib.Omega.{arith}
use mathlib.Core.Path.{◌≡◌}
use Prim.Native.Nat.{ℕ, ◌+◌, ◌-◌, ◌*◌, ◌%◌, ◌^◌, ◌≤◌}
use lib.Bits.{bit_and, and_mask}
use lib.Count.{count_leading_zeros}
use lib.Ieee.{size}
use lib.Pow.{shl_exact}
use lib.Ieee.Digits.{size-lt, size-le}
use Rattle.float_digits.specs.Pattern.{digits_of}
use Rattle.float_digits.proofs.Lengths.{zeros-and-size}
use Rattle.float_digits.proofs.unpack.Goals as goal

-- The digits as the code has them, and how many there are.
abbrev D : (c : goal.After-saturating_sub-k) → ℕ
D c = bit_and c.args.bits 0x7fff_ffff_ffff_ffff - c.saturating_sub-k.result * 2 ^ 52 % 2 ^ 64

is : (c : goal.After-saturating_sub-k) → D c ≡ digits_of c.args.bits
is c = omega (arith, c.saturating_sub-k.ensures, and_mask c.args.bits 63)

short : (c : goal.After-saturating_sub-k) → size (D c) ≤ 53
short c = size-le (D c) 53 (omega (arith, c.saturating_sub-k.ensures, and_mask c.args.bits 63))

zeros : (c : goal.After-saturating_sub-k) → count_leading_zeros 64 (D c) + size (D c) ≡ 64
zeros c = zeros-and-size 64 (D c) (omega (arith, c.saturating_sub-k.ensures, and_mask c.args.bits 63))

pub overflow_cast-z : goal.overflow_cast-z
overflow_cast-z c = omega (arith, zeros c)

pub overflow_sub-result : goal.overflow_sub-result
overflow_sub-result c = omega (arith, zeros c, short c)

pub overflow_shl-result : goal.overflow_shl-result
overflow_shl-result c = omega (arith, zeros c)

pub overflow_add-result : goal.overflow_add-result
overflow_add-result c = omega (arith, c.saturating_sub-k.ensures, and_mask c.args.bits 63)

pub overflow_sub-result-2 : goal.overflow_sub-result-2
overflow_sub-result-2 c = omega (arith, zeros c)

pub returns : goal.returns
returns c =
    let z : count_leading_zeros 64 (D c) - 1 ≡ 63 - size (D c) = omega (arith, zeros c) in
    let e : c.saturating_sub-k.result + 64 - count_leading_zeros 64 (D c) ≡ c.saturating_sub-k.result + size (D c) =
    omega (arith, zeros c) in
    let whole : D c * 2 ^ (63 - size (D c)) % 2 ^ 64 ≡ D c * 2 ^ (63 - size (D c)) =
    shl_exact (size (D c)) (63 - size (D c)) 64 (size-lt (D c)) (omega (arith, short c)) in
    rw (z, e, whole, is c, c.saturating_sub-k.ensures, and_mask c.args.bits 63)
