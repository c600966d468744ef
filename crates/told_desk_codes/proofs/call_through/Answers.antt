-- `told_desk_codes::call_through` meets its contract: it writes what the desk's call gives, and the taps that are
-- counted beside it. Assumes nothing.
use mathlib.Core.Bool.{◌&&◌}
use lib.ListN.{length}
use Rattle.quality_codes.specs.Codes.{state_of, decoded, fields_ok}
use Rattle.set_room.specs.Room.{room_of}
use Rattle.desk_delay.specs.Desk.{held_at, desk_verdict}
use Rattle.desk_codes.specs.Calls.{named_ok, caller}
use Rattle.told_codes.proofs.ByCounts.{left-told-by}
use Rattle.told_desk.proofs.ByCounts.{in-range}
use Rattle.told_desk_codes.proofs.call_through.Goals as goal

pub returns : goal.returns
returns c =
    let a = c.args in
    let s =
    state_of a.maximum a.margin a.accepted.now a.current.now a.target.now
    a.crossfade_position.now a.crossfade_samples a.rule a.direction.now in
    let by = caller a.desk a.mode in
    let room = room_of a.rates.now a.marks.now a.slots.now in
    let named = named_ok a.desk a.mode a.quality in
    let len = length a.ring.now in
    left-told-by a.max_rate s a.ring.now a.input a.delay a.quality a.playback_rate
    (held_at by room a.max_rate a.playback_rate) named
    (desk_verdict by room a.max_rate (decoded s) len a.input a.delay a.playback_rate)
    (in-range by room a.max_rate (decoded s) len a.input a.delay a.playback_rate) (named && fields_ok s)
    c.call-c.result (c.call-c.ensures.value, c.call-c.ensures.ring_after) c.decode.ensures c.mode.ensures
    c.of_call-absent.ensures
