-- `oscillators::speed_delta` meets its contract: its tests are those of the definition. Assumes nothing.
use Rattle.oscillators.proofs.speed_delta.Goals as goal

pub returns : goal.returns
returns c = rw (c.answered.ensures, c.speed_delta.ensures, c.depth_ok.ensures)

pub depth_ok-requires : goal.depth_ok-requires
depth_ok-requires c = tt

pub speed_delta-requires : goal.speed_delta-requires
speed_delta-requires c = tt

pub answered-requires : goal.answered-requires
answered-requires c = tt
