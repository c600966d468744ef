-- `sinc_delay_f32::process_sample` meets its contract: `accept` refuses, also for the table's settings and length, or
-- stores the sample; the reading after that is the table's, by the laws over any kernel's reading. Assumes nothing.
use mathlib.Core.Path.{◌∙◌}
use mathlib.Core.Bool.{◌&&◌}
use lib.Dec.{eqb}
use lib.ListN.{length}
use Rattle.answer.specs.Answers.{answer_f32_of}
use Rattle.sinc_settings.specs.Ranges.{taps_ok, phases_ok}
use Rattle.sinc_settings.specs.Refusals.{table_length}
use Rattle.sinc_settings.proofs.RefusalParts.{told-apart, both-pass}
use Rattle.sinc_read_f32.specs.Reading.{sinc_f32_at}
use Rattle.variable_delay.proofs.AnyWidth.{refused-call, taken-call}
use Rattle.variable_delay_f32.proofs.Calls.{made, silent}
use Rattle.sinc_delay_f32.proofs.process_sample.Goals as goal

pub returns-then-no-ne0 : goal.returns-then-no-ne0
returns-then-no-ne0 c =
    let s = c.args in
    let both = refused-call made answer_f32_of silent (sinc_f32_at s.table.now s.taps s.phases)
    (taps_ok s.taps && phases_ok s.phases) (eqb (length s.table.now) (table_length s.taps s.phases))
    s.state s.ring.now s.input s.delay
    (λ f still. told-apart _ _ f still c.table_refusal-due.ensures)
    (c.accept-a.ensures.value, c.accept-a.ensures.ring_after)
    c.if-no-ne0.true _ c.answered_f32.ensures in
    record { value = both.0; ring_after = both.1 }

pub returns : goal.returns
returns c =
    let s = c.args in
    let both = taken-call made answer_f32_of silent (sinc_f32_at s.table.now s.taps s.phases)
    (taps_ok s.taps && phases_ok s.phases) (eqb (length s.table.now) (table_length s.taps s.phases))
    s.state s.ring.now s.input s.delay
    (λ f still. told-apart _ _ f still c.table_refusal-due.ensures)
    (c.accept-a.ensures.value, c.accept-a.ensures.ring_after) c.if-no-ne0.false
    (λ own lent here. c.read-y.ensures ∙ rw (both-pass own lent, here)) c.answered_f32-2.ensures in
    record { value = both.0; ring_after = both.1 }
