-- `room_marks::marks::in_mode` meets its contract, by the two modes. Assumes nothing.
use Rattle.room_marks.proofs.marks.in_mode.Goals as goal

pub returns-in-Ported : goal.returns-in-Ported
returns-in-Ported c = rw c.in-Ported.is

pub returns-in-Full : goal.returns-in-Full
returns-in-Full c = rw c.in-Full.is
