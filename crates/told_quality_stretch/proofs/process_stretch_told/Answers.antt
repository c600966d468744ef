-- `told_quality_stretch::process_stretch_told` meets its contract: the stretch answers, and its taps are counted beside
-- it. Assumes nothing.
use Rattle.told_quality_stretch.proofs.Wholes.{told}
use Rattle.told_quality_stretch.proofs.process_stretch_told.Goals as goal

pub returns : goal.returns
returns c =
    let s = c.args in
    told s.sets.now s.max_rate s.quality s.playback_rate s.state s.ring.now s.inputs.now
    s.delays.now s.out.now c.process_stretch-a.result c.absent_of-absent.result c.process_stretch-a.ensures
    c.absent_of-absent.ensures
