-- `desk_slots::guess::near` meets its contract, by `only-slot`. Assumes nothing.
use lib.Ieee.{nan}
use Rattle.desk_slots.proofs.OnlySlots.{only-slot}
use Rattle.desk_slots.proofs.guess.near.Goals as goal

pub returns-then-there : goal.returns-then-there
returns-then-there c =
    let a = c.args in
    let t = c.there.ensures c.if-there.true in
    only-slot nan a.desk a.rate a.mode a.rates.now a.marks.now a.k t.0 c.requires t.1
