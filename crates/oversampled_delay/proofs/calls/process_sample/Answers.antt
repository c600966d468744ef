-- `oversampled_delay::calls::process_sample` meets its contract, by the laws of `OneCall`. Assumes nothing.
use Rattle.std.proofs.Common.{◌+◌, mul-le-mul_right, arith}
use lib.Ieee.{of_bits}
use Rattle.oversampled_delay.specs.Phases.{Ready}
use Rattle.oversampled_delay.specs.Reader.{lent_of, Lent}
use Rattle.oversampled_delay.proofs.OneCall.{refused-call, taken-call, ready, tested}
use Rattle.oversampled_delay.proofs.calls.process_sample.Goals as goal
use Rattle.oversampled_delay.proofs.calls.process_sample.Goals.{After-refusal-no, Else-no-ne0}

abbrev lent : After-refusal-no → Lent
lent c =
    let a = c.args in
    lent_of a.table.now a.coefficients.now a.up.now a.down.now a.ring.now

readied : (c : Else-no-ne0) → Ready c.args.state
readied c =
    let a = c.args in
    let r = (goal.at.Else-no-ne0 c).After-refusal-no in
    ready a.kernel a.state (lent r) a.input a.delay c.refusal-no.ensures c.if-no-ne0.false

pub returns-then-no-ne0 : goal.returns-then-no-ne0
unfolding of_bits
returns-then-no-ne0 c =
    let a = c.args in
    let r = (goal.at.returns-then-no-ne0 c).After-refusal-no in
    let both = refused-call a.kernel a.state (lent r) a.input a.delay c.refusal-no.ensures c.if-no-ne0.true
    c.answered.ensures in
    record { value = both.0; up_after = both.1.0; down_after = both.1.1.0; ring_after = both.1.1.1 }

pub phases-inner-requires : goal.phases-inner-requires
phases-inner-requires c =
    let a = c.args in
    let r = (goal.at.phases-inner-requires c).After-refusal-no in (
      readied (goal.at.phases-inner-requires c).Else-no-ne0,
      tested a.kernel a.state (lent r) a.input a.delay c.refusal-no.ensures c.if-no-ne0.false
          c.start.ensures,
    )

pub overflow_add-accepted : goal.overflow_add-accepted
overflow_add-accepted c =
    omega (arith, (readied (goal.at.overflow_add-accepted c).Else-no-ne0).room)

pub overflow_mul-state : goal.overflow_mul-state
overflow_mul-state c =
    let r = readied (goal.at.overflow_mul-state c).Else-no-ne0 in
    let n = c.args.state.accepted in
    omega (arith, mul-le-mul_right (n + 1) r.few, r.room)

pub returns : goal.returns
returns c =
    let a = c.args in
    let r = (goal.at.returns c).After-refusal-no in
    let both = taken-call a.kernel a.state (lent r) a.input a.delay c.refusal-no.ensures c.if-no-ne0.false
    c.push_number.ensures c.start.ensures (
      c.phases-inner.ensures.value,
      (c.phases-inner.ensures.down_after, c.phases-inner.ensures.ring_after),
    ) c.output-y.ensures c.answered-2.ensures in
    record { value = both.0; up_after = both.1.0; down_after = both.1.1.0; ring_after = both.1.1.1 }
