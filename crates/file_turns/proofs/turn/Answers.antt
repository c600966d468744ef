-- `file_turns::turn` meets its contract, by the layout. Assumes nothing.
use mathlib.Core.Path.{◌∙◌, sym}
use Rattle.file_turns.proofs.turn.Goals as goal

pub returns-then-is_aiff : goal.returns-then-is_aiff
returns-then-is_aiff c = rw (sym c.is_aiff.ensures ∙ c.if-is_aiff.true) c.turn.ensures

pub returns : goal.returns
returns c = rw (sym c.is_aiff.ensures ∙ c.if-is_aiff.false) c.turn-2.ensures
