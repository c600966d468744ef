-- `part_file::is_standard` meets its contract. Assumes nothing.
use Rattle.text.specs.Text.{ascii}
use Rattle.part_file.proofs.is_standard.Goals as goal

pub returns : goal.returns
unfolding ascii
returns c = c.same.ensures
