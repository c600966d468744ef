-- `fused64::quick::without` meets its contract. Assumes nothing.
use Rattle.fused64.proofs.FieldsInReach.{back-le, cut_off}
use Rattle.fused64.proofs.quick.without.Goals as goal

pub overflow_sub-hi : goal.overflow_sub-hi
overflow_sub-hi c = back-le c.args.hi c.args.rest c.args.d c.requires.fact_2

pub returns : goal.returns
returns c =
    rw c.sticky.ensures (cut_off c.args.hi c.args.rest c.args.d c.requires.fact_2)
