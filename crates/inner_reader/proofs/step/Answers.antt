-- `inner_reader::step` meets its contract: `accept` refuses or stores, and what is read behind the stored sample is the
-- kernel's reading, by the laws for any kernel. Assumes nothing.
use mathlib.Core.Path.{◌≡◌, refl, ap, ◌∙◌}
use mathlib.Core.Bool.{true}
use Prim.Native.Nat.{ℕ, zero, suc}
use lib.Ieee.{of_bits}
use Rattle.constants.specs.Numbers.{zero-f}
use Rattle.answer.specs.Answers.{answer_of}
use Rattle.kernels.specs.Kernels.{read_by}
use Rattle.variable_delay.proofs.AnyWidth.{refused-call, taken-call}
use Rattle.variable_delay.proofs.Calls.{made, silent}
use Rattle.variable_delay.specs.declared.VariableDelay.{VariableDelay}
use Rattle.inner_reader.specs.Inner.{stepped_of}
use Rattle.inner_reader.specs.declared.Stepped.{Stepped}
use Rattle.inner_reader.proofs.step.Goals as goal

-- The answer of a refusal has no value; 0.0 stands for it.
none : (k : ℕ) (d : VariableDelay)
    → ◌≡◌ {A = Stepped} (record { accepted = d.accepted; sample = zero-f }) (stepped_of (made d (answer_of k zero-f)))
none zero d = refl
none (suc k) d = refl

pub returns-then-a-ne0 : goal.returns-then-a-ne0
unfolding of_bits
returns-then-a-ne0 c =
    let s = c.args in
    let e =
    refused-call made answer_of silent (read_by s.kernel s.table.now) true true s.state s.ring.now
    s.input s.delay (λ f still. refl) (c.accept-a.ensures.value, c.accept-a.ensures.ring_after) c.if-a-ne0.true zero-f
    refl in
    record { value = none c.accept-a.result.refusal s.state ∙ ap stepped_of e.0; ring_after = e.1 }

pub returns : goal.returns
returns c =
    let s = c.args in
    let e =
    taken-call made answer_of silent (read_by s.kernel s.table.now) true true s.state s.ring.now
    s.input s.delay (λ f still. refl) (c.accept-a.ensures.value, c.accept-a.ensures.ring_after) c.if-a-ne0.false
    (λ own lent here. c.read-y.ensures) refl in
    record { value = ap stepped_of e.0; ring_after = e.1 }
