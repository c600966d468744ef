-- `lagrange_delay::process_sample` meets its contract: `accept` refuses, among other reasons because of the taps, or
-- stores. What is read behind the stored sample is Lagrange's reading, by the laws for any kernel. Assumes nothing.
use mathlib.Core.Path.{◌∙◌}
use mathlib.Core.Bool.{true}
use Rattle.answer.specs.Answers.{answer_of}
use Rattle.lagrange.specs.Kernel.{taps_ok, lagrange_at}
use Rattle.variable_delay.proofs.AnyWidth.{refused-call, taken-call}
use Rattle.variable_delay.proofs.Calls.{made, silent}
use Rattle.lagrange_delay.proofs.process_sample.Goals as goal

pub returns-then-no-ne0 : goal.returns-then-no-ne0
returns-then-no-ne0 c =
    let s = c.args in
    let both = refused-call made answer_of silent (lagrange_at s.taps) (taps_ok s.taps) true s.state s.ring.now
    s.input s.delay
    (λ f still. rw c.taps_ok-own.ensures) (c.accept-a.ensures.value, c.accept-a.ensures.ring_after) c.if-no-ne0.true _
    c.answered.ensures in
    record { value = both.0; ring_after = both.1 }

pub returns : goal.returns
returns c =
    let s = c.args in
    let both = taken-call made answer_of silent (lagrange_at s.taps) (taps_ok s.taps) true s.state s.ring.now s.input
    s.delay
    (λ f still. rw c.taps_ok-own.ensures) (c.accept-a.ensures.value, c.accept-a.ensures.ring_after) c.if-no-ne0.false
    (λ own lent here. c.read-y.ensures ∙ rw (own, here)) c.answered-2.ensures in
    record { value = both.0; ring_after = both.1 }
