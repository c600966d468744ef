-- `told_desk::process_sample_rate_aware_told` meets its contract: the desk's reader answers, and the taps of its
-- readings are counted beside it. Assumes nothing.
use Rattle.set_room.specs.Room.{room_of}
use Rattle.desk_delay.specs.Desk.{caller_of}
use Rattle.told_desk.proofs.ByCounts.{told}
use Rattle.told_desk.proofs.process_sample_rate_aware_told.Goals as goal

pub returns : goal.returns
returns c =
    let s = c.args in record {
      value = told (caller_of s.desk s.mode) (room_of s.rates.now s.marks.now s.slots.now) s.max_rate
          s.state s.ring.now s.input s.delay s.quality s.playback_rate
          c.process_sample_rate_aware-p.result c.of_call-absent.result c.process_sample_rate_aware-p.ensures.value
          c.of_call-absent.ensures;
      ring_after = c.process_sample_rate_aware-p.ensures.ring_after;
    }
