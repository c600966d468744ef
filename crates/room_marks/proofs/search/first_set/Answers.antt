-- `room_marks::search::first_set` meets its contract: no slot that the loop has passed has the set. Assumes nothing.
use mathlib.Core.Path.{◌≡◌, sym, ◌∙◌}
use native.Mathlib.Omega.{arith}
use Rattle.room_marks.specs.Slots.{has_set}
use Rattle.room_marks.proofs.Searching.{at_first, at-end, found, goes_on}
use Rattle.room_marks.proofs.search.first_set.Goals as goal

pub loop-i-init : goal.loop-i-init
loop-i-init c = at_first _ _ _

pub returns-then-has_set : goal.returns-then-has_set
returns-then-has_set c =
    let a = c.args in
    found (has_set a.rate a.mode) a.rates.now a.marks.now c.loop-i.i c.loop-i.invariant
    (omega (arith, c.slots-n.ensures)) (sym c.has_set.ensures ∙ c.if-has_set.true)

pub loop-i-preserved : goal.loop-i-preserved
loop-i-preserved c =
    let a = c.args in
    goes_on (has_set a.rate a.mode) a.rates.now a.marks.now c.loop-i.i c.loop-i.invariant
    (omega (arith, c.slots-n.ensures)) (sym c.has_set.ensures ∙ c.if-has_set.false)

pub returns : goal.returns
returns c =
    let a = c.args in
    let e : c.slots-n.result ≡ c.loop-i.i = omega arith in
    e
    ∙ at-end (has_set a.rate a.mode) a.rates.now a.marks.now c.loop-i.i c.loop-i.invariant
    (omega (arith, c.slots-n.ensures))
