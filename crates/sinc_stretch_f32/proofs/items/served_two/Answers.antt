-- `sinc_stretch_f32::items::served_two` meets its contract: the samples are stored and read in order, or the second is
-- stored before the first reading, which it leaves as it was, by `TwoItems`. Assumes nothing.
use borrow.Author.Rules.{rules}
use borrow.Author.Tests.{not-false}
use mathlib.Core.Path.{◌≡◌, sym, ◌∙◌}
use Prim.Native.Nat.{◌^◌, ◌<◌}
use native.Mathlib.Omega.{arith}
use Rattle.stretch_call.specs.Items.{item_due}
use Rattle.item_f32.proofs.Items.{room, none-taken}
use Rattle.sinc_stretch_f32.proofs.TwoItems.{first-refused, in_order, second-refused, stored-first}
use Rattle.sinc_stretch_f32.proofs.items.served_two.Goals as goal
use Rattle.sinc_stretch_f32.proofs.items.served_two.Goals.{Else-no-ne0}

-- Back to where the first sample was stored, and to the start.
pub returns-then-no-ne0 : goal.returns-then-no-ne0
returns-then-no-ne0 c =
    let a = c.args in
    first-refused a.table.now a.taps a.phases a.i a.ring.now a.input a.delay a.next_input
    a.next_delay (c.take-t.ensures.value, c.take-t.ensures.ring_after) c.if-no-ne0.true

-- The first item is accepted, so the count is small.
small : (c : Else-no-ne0) → c.args.i < 2 ^ 36
small c =
    let a = c.args in
    room a.i a.input a.delay
    (none-taken (item_due a.i a.input a.delay) a.i a.ring.now a.input a.delay
    (c.take-t.ensures.value, c.take-t.ensures.ring_after)
    c.if-no-ne0.false)

pub overflow_add-j : goal.overflow_add-j
overflow_add-j c = record { fits = omega (arith, small c) }

pub overflow_add-j-2 : goal.overflow_add-j-2
overflow_add-j-2 c = record { fits = omega (arith, small c) }

pub returns-then-not-apart : goal.returns-then-not-apart
returns-then-not-apart c =
    let a = c.args in
    in_order a.table.now a.taps a.phases a.i a.ring.now a.input a.delay a.next_input
    a.next_delay (c.take-t.ensures.value, c.take-t.ensures.ring_after) c.if-no-ne0.false c.heard-a.ensures
    c.served-s.ensures

pub returns-then-next_no-ne0 : goal.returns-then-next_no-ne0
returns-then-next_no-ne0 c =
    let a = c.args in
    second-refused a.table.now a.taps a.phases a.i a.ring.now a.input a.delay a.next_input
    a.next_delay (c.take-t.ensures.value, c.take-t.ensures.ring_after) c.if-no-ne0.false
    (c.take-u.ensures.value, c.take-u.ensures.ring_after)
    c.if-next_no-ne0.true c.heard.ensures

pub overflow_add-j-3 : goal.overflow_add-j-3
overflow_add-j-3 c =
    record { fits = omega (arith, small (goal.at.overflow_add-j-3 c).Else-no-ne0) }

pub returns : goal.returns
returns c =
    let a = c.args in
    let p = c.apart in
    stored-first a.table.now a.taps a.phases a.i a.ring.now a.input a.delay a.next_input
    a.next_delay (c.take-t.ensures.value, c.take-t.ensures.ring_after) c.if-no-ne0.false
    (c.take-u.ensures.value, c.take-u.ensures.ring_after)
    (sym p.ensures ∙ not-false p.result c.if-not-apart.false-raw)
    c.if-next_no-ne0.false
    c.both_heard-r.ensures.a_value c.both_heard-r.ensures.b_value
