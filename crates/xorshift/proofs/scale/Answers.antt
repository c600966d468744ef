-- `xorshift::scale` meets its contract, by that of `bipolar`. Assumes nothing.
use Rattle.xorshift.specs.Draws.{scale_of}
use Rattle.xorshift.proofs.scale.Goals as goal

pub returns : goal.returns
unfolding scale_of
returns c = rw c.bipolar.ensures

pub bipolar-requires : goal.bipolar-requires
bipolar-requires c = tt
