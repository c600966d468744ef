-- `progress::clear` meets its contract, by whether there is a terminal. Assumes nothing.
use Rattle.text.specs.Text.{ascii}
use Rattle.progress.proofs.clear.Goals as goal

pub returns-then-terminal : goal.returns-then-terminal
unfolding ascii
returns-then-terminal c = rw c.if-terminal.true c.say.ensures
