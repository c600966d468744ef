-- `engine_calls::reset` meets its contract, by the contracts of the functions that it calls, which have no premises.
-- Assumes nothing.
use Rattle.engine_calls.proofs.reset.Goals as goal

pub returns : goal.returns
returns c =
    let engine = c.engine_of-before.ensures in
    let called = c.reset-opened.ensures in
    let number = c.number-number.ensures in
    rw (c.words_left.ensures, number, c.left_by-after.ensures, called, engine)
