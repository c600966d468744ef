-- `room_marks::search::room_ok` meets its contract: the slots that the loop has passed are in range, so the answer is
-- that of the others. Assumes nothing.
use mathlib.Core.Path.{◌≡◌, refl, sym, ◌∙◌}
use mathlib.Core.Bool.{◌&&◌}
use Prim.Native.Nat.{◌+◌}
use native.Mathlib.Numerals.{add-one}
use native.Mathlib.Omega.{arith}
use lib.ListN.{drop}
use Rattle.room_marks.specs.Slots.{room_ok}
use Rattle.room_marks.proofs.Searching.{nothing_left, slot-by-slot}
use Rattle.room_marks.proofs.search.room_ok.Goals as goal
use Rattle.room_marks.proofs.search.room_ok.Goals.{After-alone}

pub loop-i-init : goal.loop-i-init
loop-i-init c = refl

pub alone-requires : goal.alone-requires
alone-requires c = omega (arith, c.slots-i-end.ensures)

-- What the answer is, by slot i and the others.
split : (c : After-alone) → let a = c.args in let i = c.loop-i.i in
    room_ok a.rates.now a.marks.now
    ≡ c.alone.result && room_ok (drop (i + 1) a.rates.now) (drop (i + 1) a.marks.now)
split c =
    let a = c.args in
    c.loop-i.invariant
    ∙ rw (c.alone.ensures, add-one)
    (slot-by-slot a.rates.now a.marks.now c.loop-i.i (omega (arith, c.slots-i-end.ensures)))

pub returns-then-not-alone : goal.returns-then-not-alone
returns-then-not-alone c =
    let t = c.if-not-alone.true in sym (rw t at (split (goal.at.returns-then-not-alone c).After-alone))

pub loop-i-preserved : goal.loop-i-preserved
loop-i-preserved c = let t = c.if-not-alone.false in rw t at (split (goal.at.loop-i-preserved c).After-alone)

pub returns : goal.returns
returns c =
    let a = c.args in
    sym (c.loop-i.invariant ∙ nothing_left a.rates.now a.marks.now c.loop-i.i (omega (arith, c.slots-i-end.ensures)))
