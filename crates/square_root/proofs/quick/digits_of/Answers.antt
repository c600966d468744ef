-- `square_root::quick::digits_of` meets its contract: what it takes out of the pattern is `evened`, and the patterns
-- that it makes are not a NaN's. Assumes nothing.
use Rattle.std.proofs.Common.{◌≡◌, ◌+◌, ◌*◌, ◌/◌, ◌%◌, ◌^◌, arith, shl_exact}
use lib.Bits.{bit_and, and_mask}
use lib.Ieee.{binary64}
use Rattle.rounding.proofs.Patterns.{rest-no-nan}
use Rattle.square_root.specs.Digits.{evened}
use Rattle.square_root.proofs.quick.digits_of.Goals as goal
use Rattle.square_root.proofs.quick.digits_of.Goals.{Else-field-eq0}

low : (c : Else-field-eq0) → bit_and c.args.bits 0xf_ffff_ffff_ffff ≡ c.args.bits % 2 ^ 52
low c = and_mask c.args.bits 52

odd : (c : Else-field-eq0) → bit_and (c.args.bits / 2 ^ 52 + 1) 1 ≡ (c.args.bits / 2 ^ 52 + 1) % 2
odd c = and_mask (c.args.bits / 2 ^ 52 + 1) 1

pub overflow_add-d : goal.overflow_add-d
overflow_add-d c = omega (arith, low c)

pub overflow_add-v : goal.overflow_add-v
overflow_add-v c = omega (arith, odd c)

pub overflow_add-v-2 : goal.overflow_add-v-2
overflow_add-v-2 c = omega (arith, low c, odd c)

pub overflow_shl-d : goal.overflow_shl-d
overflow_shl-d c = omega (arith, odd c)

pub float_from_bits-v : goal.float_from_bits-v
float_from_bits-v c = rest-no-nan binary64 _ (omega (arith, low c, odd c))

pub overflow_add-v-3 : goal.overflow_add-v-3
overflow_add-v-3 c = omega (arith, low c, odd c)

pub float_from_bits-v-2 : goal.float_from_bits-v-2
float_from_bits-v-2 c = rest-no-nan binary64 _ (omega (arith, low c, odd c))

pub returns : goal.returns
returns c = λ some.
    let n = c.args.bits in
    let digits : (bit_and n 0xf_ffff_ffff_ffff + 2 ^ 52) * 2 ^ bit_and (n / 2 ^ 52 + 1) 1 % 2 ^ 64 ≡ evened n =
    rw (low (goal.at.returns c).Else-field-eq0, odd (goal.at.returns c).Else-field-eq0)
    (shl_exact 53 ((n / 2 ^ 52 + 1) % 2) 64 (omega arith) (omega arith)) in
    record { field = omega (arith, c.if-field-eq0.false); digits = rw digits at (c.nearest.ensures some) }
