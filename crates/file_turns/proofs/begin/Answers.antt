-- `file_turns::begin` meets its contract, by the layout. Assumes nothing.
use mathlib.Core.Path.{◌∙◌, sym}
use Rattle.file_turns.proofs.begin.Goals as goal

pub returns-then-is_aiff : goal.returns-then-is_aiff
returns-then-is_aiff c =
    rw (sym c.is_aiff.ensures ∙ c.if-is_aiff.true) (rw (c.start-started.ensures, c.begun.ensures))

pub returns : goal.returns
returns c = rw (sym c.is_aiff.ensures ∙ c.if-is_aiff.false) c.begin.ensures
