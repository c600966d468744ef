-- `told_oversampled::direct::phases_accepted` meets its contract, by whether all were. Assumes nothing.
use Rattle.told_oversampled.proofs.direct.phases_accepted.Goals as goal

pub returns-then-all : goal.returns-then-all
returns-then-all c = rw c.if-all.true

pub returns : goal.returns
returns c =
    rw (c.accepts-4.ensures, c.accepts-3.ensures, c.accepts-2.ensures, c.accepts.ensures, c.if-all.false)
