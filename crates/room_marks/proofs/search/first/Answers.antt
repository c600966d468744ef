-- `room_marks::search::first` meets its contract: no slot that the loop has passed is wanted. Assumes nothing.
use mathlib.Core.Path.{◌≡◌, sym, ◌∙◌}
use native.Mathlib.Omega.{arith}
use Rattle.room_marks.specs.Search.{suits_of}
use Rattle.room_marks.proofs.Searching.{at_first, at-end, found, goes_on}
use Rattle.room_marks.proofs.search.first.Goals as goal

pub loop-i-init : goal.loop-i-init
loop-i-init c = at_first _ _ _

pub returns-then-suits : goal.returns-then-suits
returns-then-suits c =
    let a = c.args in
    found (suits_of a.wanted) a.rates.now a.marks.now c.loop-i.i c.loop-i.invariant
    (omega (arith, c.slots-n.ensures)) (sym c.suits.ensures ∙ c.if-suits.true)

pub loop-i-preserved : goal.loop-i-preserved
loop-i-preserved c =
    let a = c.args in
    goes_on (suits_of a.wanted) a.rates.now a.marks.now c.loop-i.i c.loop-i.invariant
    (omega (arith, c.slots-n.ensures)) (sym c.suits.ensures ∙ c.if-suits.false)

pub returns : goal.returns
returns c =
    let a = c.args in
    let e : c.slots-n.result ≡ c.loop-i.i = omega arith in
    e
    ∙ at-end (suits_of a.wanted) a.rates.now a.marks.now c.loop-i.i c.loop-i.invariant
    (omega (arith, c.slots-n.ensures))
