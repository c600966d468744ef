-- `quality_variable_delay::chosen::process_chosen` meets its contract, by its refusal or by what `accepted` gives.
-- Assumes nothing.
use Rattle.std.proofs.Common.{length, sym, ◌∙◌}
use Rattle.quality_variable_delay.specs.Chosen.{read_by}
use Rattle.quality_variable_delay.proofs.AcceptedCall.{taken, room, ring-some}
use Rattle.quality_variable_delay.proofs.Refused.{not-processed, same-ring}
use Rattle.quality_variable_delay.proofs.chosen.process_chosen.Goals as goal

pub returns-then-no-ne0 : goal.returns-then-no-ne0
returns-then-no-ne0 c =
    let a = c.args in
    let no = c.number-no.result in
    let e = c.number-no.ensures in record {
      value = rw c.answered_f32.ensures
          (not-processed (read_by a.choice a.sets.now) no e c.if-no-ne0.true a.state a.ring.now
          a.input a.delay _ a.quality);
      ring_after = same-ring no e c.if-no-ne0.true a.state a.ring.now a.input;
    }

pub accepted-requires : goal.accepted-requires
accepted-requires c =
    let a = c.args in
    let t = taken a.bank a.lent a.state (length a.ring.now) a.input a.delay a.playback_rate
    (sym c.number-no.ensures ∙ c.if-no-ne0.false) in
    (room t, ring-some t)

pub returns : goal.returns
returns c =
    let none = sym c.number-no.ensures ∙ c.if-no-ne0.false in
    record { value = rw none c.accepted.ensures.value; ring_after = rw none c.accepted.ensures.ring_after }
