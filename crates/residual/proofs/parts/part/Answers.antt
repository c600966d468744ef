-- `residual::parts::part` meets its contract: each product of two parts is at most 4095^2. Assumes nothing.
use Rattle.std.proofs.Common.{ℕ, ◌*◌, ◌≤◌, arith}
use Rattle.residual.specs.Blocks.{high_part, low_part, part_of}
use Rattle.residual.proofs.Blocks.{part-most}
use Rattle.residual.proofs.parts.part.Goals as goal

high-high : (d : ℕ) → high_part d * high_part d ≤ 16769025
high-high d = part-most (high_part d) (high_part d) (omega arith) (omega arith)

high-low : (d : ℕ) → high_part d * low_part d ≤ 16769025
high-low d = part-most (high_part d) (low_part d) (omega arith) (omega arith)

low-low : (d : ℕ) → low_part d * low_part d ≤ 16769025
low-low d = part-most (low_part d) (low_part d) (omega arith) (omega arith)

pub overflow_mul-result : goal.overflow_mul-result
overflow_mul-result c = record { fits = omega (arith, high-high c.args.d) }

pub overflow_add-result : goal.overflow_add-result
overflow_add-result c = record { fits = omega (arith, high-high c.args.d, c.requires.high) }

pub overflow_mul-result-2 : goal.overflow_mul-result-2
overflow_mul-result-2 c = record { fits = omega (arith, high-low c.args.d) }

pub overflow_add-result-2 : goal.overflow_add-result-2
overflow_add-result-2 c = record { fits = omega (arith, high-low c.args.d, c.requires.mix) }

pub overflow_mul-result-3 : goal.overflow_mul-result-3
overflow_mul-result-3 c = record { fits = omega (arith, low-low c.args.d) }

pub overflow_add-result-3 : goal.overflow_add-result-3
overflow_add-result-3 c =
    record { fits = omega (arith, low-low c.args.d, c.requires.low) }

pub returns : goal.returns
unfolding part_of
returns c = rw c.both.ensures
