-- `words_asked::words::say_too_long` meets its contract. Assumes nothing.
use Rattle.text.specs.Text.{ascii}
use Rattle.words_asked.proofs.words.say_too_long.Goals as goal

pub returns : goal.returns
unfolding ascii
returns c = c.say_plain.ensures
