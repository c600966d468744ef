-- `fused64::quick::in_reach` meets its contract. Assumes nothing.
use Rattle.std.proofs.Common.{ltb-true}
use Rattle.fused64.proofs.FieldsInReach.{heads}
use Rattle.fused64.proofs.quick.in_reach.Goals as goal

pub returns : goal.returns
returns c = λ e. heads c.args.f c.args.g c.args.h (ltb-true _ _ e)
