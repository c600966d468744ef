-- `heard_channel::hear` meets its contract: what is filled in is what is read. Assumes nothing.
use Rattle.heard_channel.specs.Heard.{samples_in, heard_in}
use Rattle.heard_channel.proofs.hear.Goals as goal

pub returns : goal.returns
unfolding samples_in heard_in
returns c =
    rw (← c.fill_f32.ensures.out_after) c.read_stretch.ensures
