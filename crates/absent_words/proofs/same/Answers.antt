-- `absent_words::same` meets its contract: five tests, joined. Assumes nothing.
use mathlib.Core.Path.{◌∙◌}
use Rattle.absent_words.proofs.same.Goals as goal

pub returns : goal.returns
returns c =
    c.both-3.ensures ∙ rw (c.both-2.ensures, c.both-kinds.ensures, c.both.ensures)
