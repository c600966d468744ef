-- `file_turns::finish` meets its contract, by the layout. Assumes nothing.
use mathlib.Core.Path.{◌∙◌, sym, ap}
use Rattle.file_turns.specs.Turns.{as_wave}
use Rattle.file_turns.proofs.finish.Goals as goal

pub returns-then-is_aiff : goal.returns-then-is_aiff
returns-then-is_aiff c =
    rw (sym c.is_aiff.ensures ∙ c.if-is_aiff.true)
    (c.as_wave.ensures ∙ ap as_wave c.finish.ensures)

pub returns : goal.returns
returns c = rw (sym c.is_aiff.ensures ∙ c.if-is_aiff.false) c.finish-2.ensures
