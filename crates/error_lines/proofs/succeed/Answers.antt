-- The sign is worked out letter by letter.
use Rattle.text.specs.Text.{ascii}
use Rattle.error_lines.proofs.succeed.Goals as goal

pub returns : goal.returns
unfolding ascii
returns c = c.from.ensures
