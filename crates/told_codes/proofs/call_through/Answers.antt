-- `told_codes::call_through` meets its contract: it writes what the call gives, and the taps that are counted beside
-- it. Assumes nothing.
use Rattle.quality_codes.specs.Codes.{state_of}
use Rattle.told_codes.proofs.ByCounts.{left-told}
use Rattle.told_codes.proofs.call_through.Goals as goal

pub returns : goal.returns
returns c =
    let a = c.args in
    let s =
    state_of a.maximum a.margin a.accepted.now a.current.now a.target.now
    a.crossfade_position.now a.crossfade_samples a.rule a.direction.now in
    left-told a.sets.now a.max_rate s a.ring.now a.input a.delay a.quality a.playback_rate
    c.call-c.result (c.call-c.ensures.value, c.call-c.ensures.ring_after) c.decode.ensures c.mode.ensures
    c.of_call-absent.ensures
