-- `file_words::say_wrapped` meets its contract, by whether it is wrapped. Assumes nothing.
use Rattle.file_words.proofs.say_wrapped.Goals as goal

pub returns-then-file : goal.returns-then-file
returns-then-file c = rw c.if-file.true c.say_kind.ensures
