-- `desk_delay::due` meets its contract, by what is found in the room. Assumes nothing.
use Rattle.std.proofs.Common.{◌∙◌}
use lib.Ieee.{of_bits}
use Rattle.desk_delay.specs.Desk.{caller_of}
use Rattle.desk_delay.proofs.DeskCalls.{found-due}
use Rattle.desk_delay.proofs.due.Goals as goal

pub returns : goal.returns
unfolding of_bits
returns c =
    let a = c.args in
    c.in_room.ensures
    ∙ rw (c.refusal-v.ensures, c.within.ensures, c.look-found.ensures)
    (found-due (caller_of a.desk a.mode) a.rates.now a.marks.now a.slots.now a.max_rate
    a.state a.len a.input a.delay a.playback_rate)
