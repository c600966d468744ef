-- `oscillators::answered` meets its contract: each branch returns what the definition gives there. Assumes nothing.
use Rattle.oscillators.specs.Answers.{answered_by}
use Rattle.oscillators.proofs.answered.Goals as goal

pub returns-then-ok : goal.returns-then-ok
unfolding answered_by
returns-then-ok c = rw c.if-ok.true

pub returns-else-ok : goal.returns-else-ok
unfolding answered_by
returns-else-ok c = rw c.if-ok.false
