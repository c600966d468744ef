-- `farrow8_delay::process_sample` meets its contract: `accept` refuses or stores, and what is read behind the stored
-- sample is Farrow8's reading, by the laws for any kernel. Assumes nothing.
use mathlib.Core.Path.{◌∙◌, refl}
use mathlib.Core.Bool.{true}
use Rattle.answer.specs.Answers.{answer_of}
use Rattle.farrow8.specs.Kernel.{farrow_at}
use Rattle.variable_delay.proofs.AnyWidth.{refused-call, taken-call}
use Rattle.variable_delay.proofs.Calls.{made, silent}
use Rattle.farrow8_delay.proofs.process_sample.Goals as goal

pub returns-then-no-ne0 : goal.returns-then-no-ne0
returns-then-no-ne0 c =
    let s = c.args in
    let both = refused-call made answer_of silent farrow_at true true s.state s.ring.now s.input s.delay
    (λ f still. refl) (c.accept-a.ensures.value, c.accept-a.ensures.ring_after) c.if-no-ne0.true _ c.answered.ensures in
    record { value = both.0; ring_after = both.1 }

pub returns : goal.returns
returns c =
    let s = c.args in
    let both = taken-call made answer_of silent farrow_at true true s.state s.ring.now s.input s.delay
    (λ f still. refl) (c.accept-a.ensures.value, c.accept-a.ensures.ring_after) c.if-no-ne0.false
    (λ own lent here. c.read-y.ensures ∙ rw here)
    c.answered-2.ensures in
    record { value = both.0; ring_after = both.1 }
