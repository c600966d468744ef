-- `float_digits::magnitude` meets its contract: the sums fit, and the quotient is the nearest. Assumes nothing.
use native.Mathlib.Omega.{arith}
use mathlib.Core.Path.{◌≡◌}
use Prim.Native.Nat.{◌*◌, ◌/◌, ◌%◌, ◌^◌}
use borrow.Author.Tests.{lt-ltb, le-ltb}
use lib.Bits.{bit_and, and_mask}
use Rattle.float_digits.proofs.PackMeaning.{quarter}
use Rattle.float_digits.proofs.magnitude.Goals as goal

-- The last 55 digits, and a quarter of them.
digits : (c : goal.Else-k-ge2046) → bit_and c.args.w 0x7f_ffff_ffff_ffff ≡ c.args.w % 2 ^ 55
digits c = and_mask c.args.w 55

bit : (c : goal.Else-k-ge2046)
    → bit_and (bit_and c.args.w 0x7f_ffff_ffff_ffff / 4) 1
    ≡ bit_and c.args.w 0x7f_ffff_ffff_ffff / 4 % 2 ^ 1
bit c = and_mask (bit_and c.args.w 0x7f_ffff_ffff_ffff / 4) 1

pub returns-then-k-ge2046 : goal.returns-then-k-ge2046
returns-then-k-ge2046 c = rw (le-ltb c.args.k 2046 c.if-k-ge2046.true)

pub overflow_add-q : goal.overflow_add-q
overflow_add-q c = omega (arith, digits c, bit c)

pub overflow_add-q-2 : goal.overflow_add-q-2
overflow_add-q-2 c = omega (arith, digits c, bit c)

pub overflow_add-result : goal.overflow_add-result
overflow_add-result c = omega (arith, digits c, bit c)

pub returns : goal.returns
returns c =
    let k = c.args.k in
    let e : k * 2 ^ 52 % 2 ^ 64 ≡ k * 2 ^ 52 = omega arith in
    rw (lt-ltb k 2046 c.if-k-ge2046.false, e, quarter, digits c)
