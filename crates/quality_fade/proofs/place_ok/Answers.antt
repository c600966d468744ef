-- `quality_fade::place_ok` meets its contract, by its two cases. Assumes nothing.
use mathlib.Core.Path.{sym, ◌∙◌}
use Rattle.quality_fade.specs.Fade.{place_ok}
use Rattle.quality_fade.proofs.place_ok.Goals as goal

pub returns-then-same : goal.returns-then-same
unfolding place_ok
returns-then-same c = rw (sym c.same.ensures ∙ c.if-same.true)

pub returns-else-same : goal.returns-else-same
unfolding place_ok
returns-else-same c = rw (sym c.same.ensures ∙ c.if-same.false)
