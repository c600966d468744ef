-- `file_words::say_unread` meets its contract, by whether a call failed. Assumes nothing.
use borrow.Author.Tests.{eq-eqb, ne_eqb}
use Rattle.text.specs.Text.{ascii}
use Rattle.file_words.proofs.say_unread.Goals as goal

pub returns-then-number-eq1 : goal.returns-then-number-eq1
unfolding ascii
returns-then-number-eq1 c =
    rw (eq-eqb c.args.number 1 c.if-number-eq1.true) c.say_failed.ensures

pub returns : goal.returns
unfolding ascii
returns c =
    rw (ne_eqb c.args.number 1 c.if-number-eq1.false) c.say_of.ensures
