-- `fused64::quick::digits_of` meets its contract. Assumes nothing.
use Rattle.std.proofs.Common.{arith}
use lib.Bits.{bit_and, and_mask, or_shifted_r}
use Rattle.fused64.proofs.quick.digits_of.Goals as goal

pub returns : goal.returns
returns c =
    let n = bit_and c.args.bits 0xf_ffff_ffff_ffff in
    let low = and_mask c.args.bits 52 in
    omega (arith, or_shifted_r 1 52 n (omega arith))
