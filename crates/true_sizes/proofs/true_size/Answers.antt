-- `true_sizes::true_size` meets its contract, by its two cases. Assumes nothing.
use mathlib.Core.Path.{sym, ◌∙◌}
use Rattle.true_sizes.proofs.true_size.Goals as goal

pub returns-then-both : goal.returns-then-both
returns-then-both c =
    rw (← c.is_long.ensures, sym c.both.ensures ∙ c.if-both.true) c.size_64.ensures

pub returns : goal.returns
returns c =
    rw (← c.is_long.ensures, sym c.both.ensures ∙ c.if-both.false)
