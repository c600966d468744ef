-- `wav_opening::sizes_small` meets its contract, by its two cases. Assumes nothing.
use mathlib.Core.Path.{sym, ◌∙◌}
use Rattle.wav_opening.proofs.sizes_small.Goals as goal

pub returns-then-uses_ds64 : goal.returns-then-uses_ds64
returns-then-uses_ds64 c = rw (sym c.uses_ds64.ensures ∙ c.if-uses_ds64.true) c.small_sizes.ensures

pub returns : goal.returns
returns c = rw (sym c.uses_ds64.ensures ∙ c.if-uses_ds64.false)
