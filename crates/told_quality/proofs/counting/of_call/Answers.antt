-- `told_quality::of_call` meets its contract, by whether the count has changed. Assumes nothing.
use Rattle.std.proofs.Common.{◌∙◌, rules, eq-eqb, ne_eqb}
use Rattle.told_quality.proofs.counting.of_call.Goals as goal

pub returns-then-before-after : goal.returns-then-before-after
returns-then-before-after c = c.nothing.ensures ∙ rw (eq-eqb _ _ c.if-before-after.true)

pub returns : goal.returns
returns c =
    c.of_turn.ensures
    ∙ rw (
      c.turn.ensures,
      c.choice_or_zero.ensures,
      c.nearest_u64_to_f64.ensures,
      ne_eqb _ _ c.if-before-after.false,
    )
