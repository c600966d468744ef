-- `sample_kind::frame_width` meets its contract, by that of `width`; the product of two small numbers fits. Assumes
-- nothing.
use native.Mathlib.Omega.{arith}
use Rattle.sample_kind.proofs.Widths.{few_bytes}
use Rattle.sample_kind.proofs.frame_width.Goals as goal

pub overflow_mul-result : goal.overflow_mul-result
overflow_mul-result c =
    rw c.width.ensures (omega (arith, few_bytes c.args.kind c.args.channels (omega arith)))

pub returns : goal.returns
returns c = rw c.width.ensures
