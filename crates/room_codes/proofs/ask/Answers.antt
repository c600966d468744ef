-- `room_codes::ask` meets its contract, by whether the numbers name a desk and a mode. Assumes nothing.
use mathlib.Core.Path.{◌≡◌, ◌∙◌}
use Rattle.set_room.specs.Room.{room_of}
use Rattle.room_codes.specs.Coded.{named}
use Rattle.room_codes.proofs.Named.{both-known, asked-left, not-asked}
use Rattle.room_codes.proofs.ask.Goals as goal
use Rattle.room_codes.proofs.ask.Goals.{After-both}

tested : (c : After-both) → named c.args.desk c.args.mode ≡ c.both.result
tested c =
    both-known c.both.result c.known.result c.known-2.result _ _ c.both.ensures
    c.known.ensures c.known-2.ensures

pub returns-in-Granted : goal.returns-in-Granted
returns-in-Granted c =
    let a = c.args in
    asked-left a.desk a.mode a.rate (room_of a.rates.now a.marks.now a.slots.now)
    c.of_number.result c.of_code.result c.of_number.ensures c.of_code.ensures
    (tested (goal.at.returns-in-Granted c).After-both ∙ c.if-both.true) _ c.ask-asked.result _ c.ask-asked.ensures.value
    c.in-Granted.is
    c.ask-asked.ensures.slots_after

pub returns-in-Refused : goal.returns-in-Refused
returns-in-Refused c =
    let a = c.args in
    asked-left a.desk a.mode a.rate (room_of a.rates.now a.marks.now a.slots.now)
    c.of_number.result c.of_code.result c.of_number.ensures c.of_code.ensures
    (tested (goal.at.returns-in-Refused c).After-both ∙ c.if-both.true) _ c.ask-asked.result _ c.ask-asked.ensures.value
    c.in-Refused.is
    c.ask-asked.ensures.slots_after

pub returns : goal.returns
returns c =
    let a = c.args in
    not-asked a.desk a.mode a.rate (room_of a.rates.now a.marks.now a.slots.now)
    (tested (goal.at.returns c).After-both ∙ c.if-both.false)
