-- `told_quality::turn` meets its contract: it is the turn of the step that it makes. Assumes nothing.
use Rattle.std.proofs.Common.{ap, rules}
use Rattle.returning_fade.specs.declared.RuledTurn.{RuledTurn}
use Rattle.told_quality.proofs.counting.turn.Goals as goal

pub returns : goal.returns
returns c = ap (λ (t : RuledTurn). t.turn) c.step-t.ensures
