-- `sinc_stretch_f32::items::served` meets its contract: the item is refused, or its sample is stored and the ring is
-- read. Assumes nothing.
use borrow.Author.Rules.{rules}
use native.Mathlib.Omega.{arith}
use Rattle.sinc_read_f32.specs.Reading.{read_of}
use Rattle.stretch_call.specs.Items.{item_due}
use Rattle.item_f32.proofs.Items.{room, none-taken, not-served, served}
use Rattle.sinc_stretch_f32.proofs.items.served.Goals as goal

pub returns-then-no-ne0 : goal.returns-then-no-ne0
returns-then-no-ne0 c =
    let a = c.args in
    not-served (item_due a.i a.input a.delay) a.i a.ring.now a.input a.delay
    (c.take-t.ensures.value, c.take-t.ensures.ring_after)
    c.if-no-ne0.true

pub overflow_add-i : goal.overflow_add-i
overflow_add-i c =
    let a = c.args in
    let none =
    none-taken (item_due a.i a.input a.delay) a.i a.ring.now a.input a.delay
    (c.take-t.ensures.value, c.take-t.ensures.ring_after)
    c.if-no-ne0.false in
    record { fits = omega (arith, room a.i a.input a.delay none) }

pub returns : goal.returns
returns c =
    let a = c.args in
    served (item_due a.i a.input a.delay) a.i a.ring.now a.input a.delay
    (c.take-t.ensures.value, c.take-t.ensures.ring_after)
    (read_of a.table.now a.taps a.phases) c.if-no-ne0.false c.heard.ensures
