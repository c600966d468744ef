-- `variable_delay::refusal` meets its contract, by the law of `Settings` about the length that the settings need.
-- Assumes nothing.
use mathlib.Core.Path.{◌∙◌}
use Rattle.variable_delay.proofs.Settings.{due-is}
use Rattle.variable_delay.proofs.refusals.refusal.Goals as goal

pub returns : goal.returns
returns c =
    let a = c.args in
    c.due.ensures
    ∙ due-is a.own a.lent a.state a.len a.input a.delay c.length_for-needed.ensures
