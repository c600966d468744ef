-- `desk_slots::find` meets its contract: a room whose rates rise is in range, and there a guessed slot is the only one.
-- Assumes nothing.
use mathlib.Core.Path.{◌≡◌, sym, ◌∙◌}
use mathlib.Core.Bool.{true}
use Rattle.room_marks.specs.Slots.{room_ok}
use Rattle.desk_slots.proofs.RisingRooms.{rising-room}
use Rattle.desk_slots.proofs.find.Goals as goal
use Rattle.desk_slots.proofs.find.Goals.{Then-rising}

in-range : (c : Then-rising) → let a = c.args in
    room_ok a.rates.now a.marks.now ≡ true
in-range c = rising-room _ _ (sym c.rising.ensures ∙ c.if-rising.true)

pub returns-then-rising : goal.returns-then-rising
returns-then-rising c = rw (
  c.near.ensures,
  c.near-then-rising.ensures,
  in-range (goal.at.returns-then-rising c).Then-rising,
)

pub returns : goal.returns
returns c = rw (c.own_slot.ensures, c.own_slot-2.ensures, c.room_ok.ensures)

pub near-requires : goal.near-requires
near-requires c = in-range c

pub near-requires-then-rising : goal.near-requires-then-rising
near-requires-then-rising c = in-range (goal.at.near-requires-then-rising c).Then-rising
