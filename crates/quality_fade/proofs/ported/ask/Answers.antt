-- `quality_fade::ported::ask` meets its contract, by its two cases. Assumes nothing.
use mathlib.Core.Path.{sym, ◌∙◌}
use Rattle.quality_fade.proofs.ported.ask.Goals as goal

pub returns-then-same : goal.returns-then-same
returns-then-same c = rw (sym c.same.ensures ∙ c.if-same.true)

pub returns : goal.returns
returns c = rw (sym c.same.ensures ∙ c.if-same.false) c.left.ensures
