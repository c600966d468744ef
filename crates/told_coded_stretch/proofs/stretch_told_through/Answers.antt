-- `told_coded_stretch::stretch_told_through` meets its contract: it writes what the stretch gives, and the taps that
-- are counted beside it. Assumes nothing.
use Rattle.quality_codes.specs.Codes.{state_of}
use Rattle.told_coded_stretch.proofs.ByNames.{told}
use Rattle.told_coded_stretch.proofs.stretch_told_through.Goals as goal

pub returns : goal.returns
returns c =
    let a = c.args in
    told a.sets.now a.max_rate a.quality a.playback_rate
    (state_of a.maximum a.margin a.accepted.now a.current.now a.target.now
    a.crossfade_position.now a.crossfade_samples a.rule a.direction.now)
    a.ring.now a.inputs.now a.delays.now a.out.now
    c.process_stretch-a.result c.process_stretch-a.ensures c.decode.ensures c.mode.ensures
    c.absent_of-absent.ensures
