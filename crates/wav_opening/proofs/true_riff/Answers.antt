-- `wav_opening::true_riff` meets its contract, by its two cases. Assumes nothing.
use mathlib.Core.Path.{sym, ◌∙◌}
use Rattle.wav_opening.proofs.true_riff.Goals as goal

pub returns-then-both : goal.returns-then-both
returns-then-both c =
    rw (← c.uses_ds64.ensures, ← c.low_first_u32-field.ensures, sym c.both.ensures ∙ c.if-both.true)
    c.low_first.ensures

pub returns : goal.returns
returns c =
    rw (← c.uses_ds64.ensures, ← c.low_first_u32-field.ensures, sym c.both.ensures ∙ c.if-both.false)
