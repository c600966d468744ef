-- `part_file::say_unwritten` meets its contract, by whether it is standard output. Assumes nothing.
use Rattle.text.specs.Text.{ascii}
use Rattle.part_file.specs.Parts.{shown_name}
use Rattle.part_file.proofs.say_unwritten.Goals as goal

pub returns-then-is_standard : goal.returns-then-is_standard
unfolding ascii shown_name
returns-then-is_standard c =
    rw (← c.is_standard.ensures, c.if-is_standard.true) c.say_failed.ensures

pub returns : goal.returns
unfolding ascii shown_name
returns c = rw (← c.is_standard.ensures, c.if-is_standard.false) c.say_failed-2.ensures
