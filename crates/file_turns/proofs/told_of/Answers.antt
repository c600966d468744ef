-- `file_turns::told_of` meets its contract, by the layout. Assumes nothing.
use mathlib.Core.Path.{◌∙◌, sym}
use Rattle.file_turns.proofs.told_of.Goals as goal

pub returns-then-is_aiff : goal.returns-then-is_aiff
returns-then-is_aiff c = rw (sym c.is_aiff.ensures ∙ c.if-is_aiff.true) c.comm_told.ensures

pub returns : goal.returns
returns c = rw (sym c.is_aiff.ensures ∙ c.if-is_aiff.false) c.fmt_told.ensures
