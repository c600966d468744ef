-- `engine_calls::next` meets its contract, by the contracts of the functions that it calls, which have no premises.
-- Assumes nothing.
use Rattle.engine_calls.proofs.next.Goals as goal

pub returns : goal.returns
returns c =
    let engine = c.engine_of-before.ensures in
    let step = c.next-next.ensures in
    let number = c.refusal-number.ensures in
    rw (c.words_left.ensures, c.left_of.ensures, c.right_of.ensures, number, step, engine)
