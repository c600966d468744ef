-- `bank_read::sets_ok` meets its contract: a bank has a set if it holds more whole sets than come before that one.
-- Assumes nothing.
use mathlib.Core.Path.{sym, ◌∙◌}
use borrow.Author.Tests.{lt-ltb, le-ltb}
use Rattle.bank_read.proofs.WholeSets.{has-set}
use Rattle.bank_read.proofs.sets_ok.Goals as goal

pub returns-then-choice-n : goal.returns-then-choice-n
returns-then-choice-n c =
    let a = c.args in
    rw (sym (has-set a.choice.now.safe a.len) ∙ lt-ltb _ _ c.if-choice-n.true)
    (has-set a.choice.now.tighter a.len)

pub returns-else-choice-n : goal.returns-else-choice-n
returns-else-choice-n c =
    let a = c.args in rw (sym (has-set a.choice.now.safe a.len) ∙ le-ltb _ _ c.if-choice-n.false)
