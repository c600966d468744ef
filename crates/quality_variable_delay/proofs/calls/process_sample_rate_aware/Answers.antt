-- `quality_variable_delay::calls::process_sample_rate_aware` meets its contract, by its refusal or by what `accepted`
-- gives. Assumes nothing.
use Rattle.std.proofs.Common.{sym, ◌∙◌}
use Rattle.bank_read.specs.Bank.{bank_at}
use Rattle.quality_variable_delay.proofs.Refused.{not-processed, same-ring}
use Rattle.quality_variable_delay.proofs.calls.process_sample_rate_aware.Goals as goal

pub returns-then-no-ne0 : goal.returns-then-no-ne0
returns-then-no-ne0 c =
    let a = c.args in
    let no = c.tested-no.result in
    let e = c.tested-no.ensures in record {
      value = rw c.answered_f32.ensures
          (not-processed (bank_at a.sets.now a.max_rate a.playback_rate) no e c.if-no-ne0.true
          a.state
          a.ring.now a.input a.delay _ a.quality);
      ring_after = same-ring no e c.if-no-ne0.true a.state a.ring.now a.input;
    }

pub accepted-requires : goal.accepted-requires
accepted-requires c = sym c.tested-no.ensures ∙ c.if-no-ne0.false

pub returns : goal.returns
returns c =
    let none = sym c.tested-no.ensures ∙ c.if-no-ne0.false in
    record { value = rw none c.accepted.ensures.value; ring_after = rw none c.accepted.ensures.ring_after }
