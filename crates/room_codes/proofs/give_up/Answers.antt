-- `room_codes::give_up` meets its contract, by whether the numbers name a desk and a mode. Assumes nothing.
use mathlib.Core.Path.{◌≡◌, ◌∙◌}
use Rattle.set_room.specs.Room.{room_of}
use Rattle.room_codes.specs.Coded.{named}
use Rattle.room_codes.proofs.Named.{both-known, given-left, not-given}
use Rattle.room_codes.proofs.give_up.Goals as goal
use Rattle.room_codes.proofs.give_up.Goals.{After-both}

tested : (c : After-both) → named c.args.desk c.args.mode ≡ c.both.result
tested c =
    both-known c.both.result c.known.result c.known-2.result _ _ c.both.ensures
    c.known.ensures c.known-2.ensures

pub returns-then-both : goal.returns-then-both
returns-then-both c =
    let a = c.args in
    let both = given-left a.desk a.mode a.rate (room_of a.rates.now a.marks.now a.slots.now)
    c.of_number.result c.of_code.result c.of_number.ensures c.of_code.ensures
    (tested (goal.at.returns-then-both c).After-both ∙ c.if-both.true) _ c.give_up.result c.give_up.ensures.value
    c.give_up.ensures.slots_after in
    record { value = both.0; slots_after = both.1 }

pub returns : goal.returns
returns c =
    let a = c.args in
    let both = not-given a.desk a.mode a.rate (room_of a.rates.now a.marks.now a.slots.now)
    (tested (goal.at.returns c).After-both ∙ c.if-both.false) in
    record { value = both.0; slots_after = both.1 }
