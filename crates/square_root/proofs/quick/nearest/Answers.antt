-- `square_root::quick::nearest` meets its contract: a guess below 2 is not a NaN, its digits fit, and what the check
-- leaves shows which number is nearest. Assumes nothing.
use Rattle.std.proofs.Common.{◌+◌, ◌*◌, ◌^◌, ◌<◌, ◌≤◌, leb, le_trans, le_of_eq, arith}
use lib.Bits.{bit_and, and_mask}
use lib.Ieee.{binary64, to_bits}
use Rattle.square_root.proofs.SpecialCases.{below_no_nan}
use Rattle.square_root.proofs.GuessCheck.{digit-le, nearest-is}
use Rattle.square_root.proofs.quick.nearest.Goals as goal
use Rattle.square_root.proofs.quick.nearest.Goals.{After-digit, Then-g}

low : (c : Then-g) → bit_and (to_bits binary64 c.args.g) 0xf_ffff_ffff_ffff < 2 ^ 52
low c = omega (arith, and_mask (to_bits binary64 c.args.g) 52)

pub float_to_bits-y : goal.float_to_bits-y
float_to_bits-y c = below_no_nan c.args.g _ c.if-g.true

pub overflow_add-y : goal.overflow_add-y
overflow_add-y c = omega (arith, low c)

pub overflow_mul-y : goal.overflow_mul-y
overflow_mul-y c = omega (arith, low c)

pub rest-r-requires : goal.rest-r-requires
rest-r-requires c = omega (arith, low c)

pub overflow_mul-y-then-g : goal.overflow_mul-y-then-g
overflow_mul-y-then-g c = omega (arith, low (goal.at.overflow_mul-y-then-g c).Then-g)

pub overflow_add-y-then-g : goal.overflow_add-y-then-g
overflow_add-y-then-g c = omega (arith, low (goal.at.overflow_add-y-then-g c).Then-g)

pub overflow_mul-y-then-r-y : goal.overflow_mul-y-then-r-y
overflow_mul-y-then-r-y c = omega (arith, low (goal.at.overflow_mul-y-then-r-y c).Then-g)

one : (c : After-digit) → c.digit.result ≤ 1
one c =
    le_trans (le_of_eq c.digit.ensures) (digit-le (leb
    (8 * (bit_and (to_bits binary64 c.args.g) 0xf_ffff_ffff_ffff + 2 ^ 52))
    c.rest-r.result))

pub overflow_add-result : goal.overflow_add-result
overflow_add-result c = omega (arith, low (goal.at.overflow_add-result c).Then-g, one c)

pub returns-then-r-y : goal.returns-then-r-y
returns-then-r-y c = λ _.
    let y = bit_and (to_bits binary64 c.args.g) 0xf_ffff_ffff_ffff + 2 ^ 52 in
    nearest-is c.args.c y c.rest-r.result c.digit.result (omega arith)
    (omega (arith, low (goal.at.returns-then-r-y c).Then-g))
    (c.rest-r.ensures (omega (arith, low (goal.at.returns-then-r-y c).Then-g))) c.if-r-y.true c.digit.ensures
