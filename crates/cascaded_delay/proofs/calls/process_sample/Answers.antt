-- `cascaded_delay::calls::process_sample` meets its contract, by the laws of `OneCall`. Assumes nothing.
use native.Mathlib.Omega.{arith}
use lib.Ieee.{of_bits}
use Rattle.cascaded_delay.specs.Halves.{Ready}
use Rattle.cascaded_delay.specs.Reader.{Lent, lent_of}
use Rattle.cascaded_delay.proofs.OneCall.{refused-call, taken-call, ready}
use Rattle.cascaded_delay.proofs.calls.process_sample.Goals as goal
use Rattle.cascaded_delay.proofs.calls.process_sample.Goals.{After-refusal-no, Else-no-ne0}

abbrev lent : After-refusal-no → Lent
lent r =
    let a = r.args in
    lent_of a.table.now a.halfband.now a.last.now a.up1.now a.up2.now a.down2.now
    a.down1.now a.ring.now

readied : (c : Else-no-ne0) → Ready c.args.state
readied c =
    let a = c.args in
    let r = (goal.at.Else-no-ne0 c).After-refusal-no in
    ready a.kernel a.state (lent r) a.input a.delay c.refusal-no.ensures c.if-no-ne0.false

pub returns-then-no-ne0 : goal.returns-then-no-ne0
unfolding of_bits
returns-then-no-ne0 c =
    let a = c.args in
    let r = (goal.at.returns-then-no-ne0 c).After-refusal-no in
    let both = refused-call a.kernel a.state (lent r) a.input a.delay c.refusal-no.ensures c.if-no-ne0.true
    c.answered.ensures in
    record {
      value = both.0;
      up1_after = both.1.0;
      up2_after = both.1.1.0;
      down2_after = both.1.1.1.0;
      down1_after =
          both.1.1.1.1.0;
      ring_after = both.1.1.1.1.1;
    }

pub both_halves-inner-requires : goal.both_halves-inner-requires
both_halves-inner-requires c = readied (goal.at.both_halves-inner-requires c).Else-no-ne0

pub overflow_add-accepted : goal.overflow_add-accepted
overflow_add-accepted c =
    let r = readied (goal.at.overflow_add-accepted c).Else-no-ne0 in
    omega (arith, r.room)

pub overflow_mul-accepted : goal.overflow_mul-accepted
overflow_mul-accepted c =
    let r = readied (goal.at.overflow_mul-accepted c).Else-no-ne0 in
    omega (arith, r.room)

pub returns : goal.returns
returns c =
    let a = c.args in
    let r = (goal.at.returns c).After-refusal-no in
    let both = taken-call a.kernel a.state (lent r) a.input a.delay c.refusal-no.ensures c.if-no-ne0.false _ _ _ _ _ _ _
    c.push_number.ensures c.start-from.ensures (
      c.both_halves-inner.ensures.value,
      (
        c.both_halves-inner.ensures.up2_after,
        (
          c.both_halves-inner.ensures.down2_after,
          (c.both_halves-inner.ensures.down1_after, c.both_halves-inner.ensures.ring_after),
        ),
      ),
    ) c.output-y.ensures
    c.answered-2.ensures in
    record {
      value = both.0;
      up1_after = both.1.0;
      up2_after = both.1.1.0;
      down2_after = both.1.1.1.0;
      down1_after =
          both.1.1.1.1.0;
      ring_after = both.1.1.1.1.1;
    }
