-- `file_words::say_unopened` meets its contract, by what was found. Assumes nothing.
use Rattle.text.specs.Text.{ascii}
use Rattle.file_words.proofs.say_unopened.Goals as goal

pub returns-in-Unread : goal.returns-in-Unread
unfolding ascii
returns-in-Unread c = rw c.in-Unread.is c.say_failed.ensures

pub returns-in-Empty : goal.returns-in-Empty
unfolding ascii
returns-in-Empty c = rw c.in-Empty.is c.say_of.ensures

pub returns-in-Shorter : goal.returns-in-Shorter
unfolding ascii
returns-in-Shorter c = rw c.in-Shorter.is c.say_of-in-Shorter.ensures

pub returns-in-Refused : goal.returns-in-Refused
unfolding ascii
returns-in-Refused c = rw c.in-Refused.is c.say_refused.ensures
