-- `quality_stretch::rest::served` meets its contract: the item is refused, or its sample is stored and the ring read.
-- Assumes nothing.
use mathlib.Core.Path.{◌∙◌}
use native.Mathlib.Omega.{arith}
use Rattle.bank_read.specs.Inner.{read_of}
use Rattle.stretch_call.specs.Items.{item_due}
use Rattle.item_f32.proofs.Items.{room, none-taken, not-served, served}
use Rattle.quality_stretch.proofs.rest.served.Goals as goal

pub returns-then-no-ne0 : goal.returns-then-no-ne0
returns-then-no-ne0 c =
    let a = c.args in
    let both = not-served (item_due a.i a.input a.delay) a.i a.ring.now a.input a.delay
    (c.take-t.ensures.value, c.take-t.ensures.ring_after)
    c.if-no-ne0.true in
    record { refusal_value = both.0; sample_value = both.1.0; ring_after = both.1.1 }

pub overflow_add-i : goal.overflow_add-i
overflow_add-i c =
    let a = c.args in
    let none =
    none-taken (item_due a.i a.input a.delay) a.i a.ring.now a.input a.delay
    (c.take-t.ensures.value, c.take-t.ensures.ring_after)
    c.if-no-ne0.false in
    record { fits = omega (arith, room a.i a.input a.delay none) }

pub returns : goal.returns
returns c =
    let a = c.args in
    let both = served (item_due a.i a.input a.delay) a.i a.ring.now a.input a.delay
    (c.take-t.ensures.value, c.take-t.ensures.ring_after)
    (read_of a.choice a.quality a.sets.now) c.if-no-ne0.false
    (c.one_nan_f32.ensures ∙ c.read-y.ensures) in
    record { refusal_value = both.0; sample_value = both.1.0; ring_after = both.1.1 }
