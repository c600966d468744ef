-- `told_call::of_call` meets its contract, by whether the count has changed. Assumes nothing.
use Rattle.std.proofs.Common.{◌∙◌, eq-eqb, ne_eqb}
use Rattle.told_call.proofs.of_call.Goals as goal

pub returns-then-before-after : goal.returns-then-before-after
returns-then-before-after c = c.nothing.ensures ∙ rw (eq-eqb _ _ c.if-before-after.true)

pub returns : goal.returns
returns c = c.missing.ensures ∙ rw (c.position_of.ensures, ne_eqb _ _ c.if-before-after.false)
