-- `wrapping_u64::wrapping_mul` meets its contract: a mask is a remainder, so the body is the law `halves` at the base
-- 2^32. Assumes nothing.
use Rattle.std.proofs.Common.{◌≡◌, ℕ, ◌*◌, ◌/◌, ◌%◌, ◌^◌, ◌∙◌, arith, shr_lt}
use lib.Bits.{bit_and, mask_lt, and_mask}
use Rattle.wrapping_u64.proofs.Halves.{below, halves}
use Rattle.wrapping_u64.proofs.wrapping_mul.Goals as goal

pub overflow_mul-mixed : goal.overflow_mul-mixed
overflow_mul-mixed c = record { fits = below 32 (mask_lt c.args.a 32) (shr_lt 32 32 c.ranges.b.fits) }

pub overflow_mul-mixed-2 : goal.overflow_mul-mixed-2
overflow_mul-mixed-2 c = record { fits = below 32 (shr_lt 32 32 c.ranges.a.fits) (mask_lt c.args.b 32) }

pub overflow_add-mixed : goal.overflow_add-mixed
overflow_add-mixed c =
    omega (
      arith,
      mask_lt (bit_and c.args.a 0xffff_ffff * (c.args.b / 2 ^ 32)) 32,
      mask_lt (c.args.a / 2 ^ 32 * bit_and c.args.b 0xffff_ffff) 32,
    )

pub overflow_mul-al : goal.overflow_mul-al
overflow_mul-al c = record { fits = below 32 (mask_lt c.args.a 32) (mask_lt c.args.b 32) }

lower : (n : ℕ) → bit_and n 0xffff_ffff ≡ n % 2 ^ 32
lower n = and_mask n 32

pub returns : goal.returns
returns c = c.wrapping_add_u64.ensures.value ∙ simp lower (halves c.args.a c.args.b (2 ^ 32))
