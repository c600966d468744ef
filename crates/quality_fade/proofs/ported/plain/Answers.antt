-- `quality_fade::ported::plain` meets its contract, by its two cases. Assumes nothing.
use mathlib.Core.Path.{sym, ◌∙◌}
use Rattle.quality_fade.proofs.ported.plain.Goals as goal

pub returns-then-same : goal.returns-then-same
returns-then-same c = rw (sym c.same.ensures ∙ c.if-same.true)

pub returns-else-same : goal.returns-else-same
returns-else-same c = rw (sym c.same.ensures ∙ c.if-same.false)
