-- `told_oversampled::cascaded::quarters_accepted` meets its contract: what it writes into the history it takes out
-- again. Assumes nothing.
use Rattle.std.proofs.Common.{refl}
use Rattle.told_oversampled.proofs.PutBack.{both_halves}
use Rattle.told_oversampled.proofs.cascaded.quarters_accepted.Goals as goal

pub returns-then-all : goal.returns-then-all
returns-then-all c = record { value = rw c.if-all.true; up2_unchanged = refl }

pub returns : goal.returns
returns c =
    let a = c.args in
    let both =
    both_halves a.halfband.now a.up2.now a.accepted a.before c.requires.1
    c.requires.0 c.saved-after.ensures c.accepts-third.ensures c.accepts-fourth.ensures
    c.push.ensures c.accepts-first.ensures c.accepts-second.ensures c.push-2.ensures in
    record { value = rw c.if-all.false both.0; up2_unchanged = both.1 }
