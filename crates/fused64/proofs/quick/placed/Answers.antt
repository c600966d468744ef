-- `fused64::quick::placed` meets its contract. Assumes nothing.
use Rattle.std.proofs.Common.{◌-◌, ◌*◌, ◌/◌, ◌%◌, ◌^◌, ◌≤◌, lt_irrefl, arith}
use lib.Bits.{bit_and, and_mask}
use lib.Count.{count_leading_zeros, leading_le}
use Rattle.fused64.proofs.Placing.{zeros, moved-lt, is-placed}
use Rattle.fused64.proofs.quick.placed.Goals as goal

pub returns-then-n-lt36028797018963968 : goal.returns-then-n-lt36028797018963968
returns-then-n-lt36028797018963968 c = λ p. absurd (lt_irrefl 0 p)

led : (c : goal.Else-n-lt36028797018963968)
    → (1 ≤ count_leading_zeros 64 c.args.n) × (count_leading_zeros 64 c.args.n ≤ 8)
led c =
    let z = zeros c.args.n c.args.g c.requires c.if-n-lt36028797018963968.false in
    (z.0, z.1)

short : (c : goal.Else-n-lt36028797018963968)
    → (c.args.n * 2 ^ (count_leading_zeros 64 c.args.n - 1) % 2 ^ 64 ≤ 0x7fff_ffff_ffff_ffff)
    × (bit_and (c.args.n * 2 ^ (count_leading_zeros 64 c.args.n - 1) % 2 ^ 64 / 2 ^ 10) 1 ≤ 1)
short c = (
  omega (arith, moved-lt c.args.n c.args.g c.requires c.if-n-lt36028797018963968.false),
  omega (arith, and_mask (c.args.n * 2 ^ (count_leading_zeros 64 c.args.n - 1) % 2 ^ 64 / 2 ^ 10) 1),
)

pub overflow_cast-l : goal.overflow_cast-l
overflow_cast-l c = omega (arith, leading_le 64 c.args.n)

pub overflow_sub-t : goal.overflow_sub-t
overflow_sub-t c = (led c).0

pub overflow_shl-t : goal.overflow_shl-t
overflow_shl-t c = omega (arith, led c)

pub overflow_add-q : goal.overflow_add-q
overflow_add-q c = omega (arith, short c)

pub overflow_add-q-2 : goal.overflow_add-q-2
overflow_add-q-2 c = omega (arith, short c)

pub overflow_sub-result : goal.overflow_sub-result
overflow_sub-result c = omega (arith, led c, c.requires.low)

pub overflow_add-result : goal.overflow_add-result
overflow_add-result c = omega (arith, led c, short c, c.requires.low, c.requires.high, c.requires.word)

pub returns : goal.returns
returns c = λ _. is-placed c.args.n c.args.g c.requires c.if-n-lt36028797018963968.false
