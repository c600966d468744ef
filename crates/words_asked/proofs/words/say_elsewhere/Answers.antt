-- `words_asked::words::say_elsewhere` meets its contract. Assumes nothing.
use Rattle.text.specs.Text.{ascii}
use Rattle.words_asked.proofs.words.say_elsewhere.Goals as goal

pub returns : goal.returns
unfolding ascii
returns c = c.say_of.ensures
