-- `quality_variable_delay::calls::due` meets its contract, by `bank-due`. Assumes nothing.
use Rattle.std.proofs.Common.{◌∙◌}
use Rattle.quality_variable_delay.proofs.BankTests.{bank-due}
use Rattle.quality_variable_delay.proofs.calls.due.Goals as goal

pub returns : goal.returns
returns c =
    let a = c.args in
    c.refusal.ensures
    ∙ bank-due c.bank_length-needed.result a.lent a.max_rate a.state a.len a.input a.delay
    a.playback_rate c.bank_length-needed.ensures
