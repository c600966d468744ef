-- `desk_slots::rising::rising` meets its contract: the slots that the loop has passed let the rates rise, so the answer
-- is that of the others. Assumes nothing.
use mathlib.Core.Path.{◌≡◌, refl, sym, ◌∙◌}
use mathlib.Core.Bool.{◌&&◌}
use Prim.Native.Nat.{◌+◌}
use native.Mathlib.Numerals.{add-one}
use native.Mathlib.Omega.{arith}
use lib.ListN.{get_or, drop}
use lib.Ieee.{nan, of_bits}
use Rattle.sinc_settings.specs.Ranges.{one-f}
use Rattle.desk_slots.specs.Rising.{risen_to, rising_from}
use Rattle.desk_slots.proofs.RisingSlots.{nothing_left, slot-by-slot}
use Rattle.desk_slots.proofs.rising.rising.Goals as goal
use Rattle.desk_slots.proofs.rising.rising.Goals.{After-rises_here}

pub loop-i-init : goal.loop-i-init
unfolding of_bits
loop-i-init c = refl

-- What the answer is, by slot i and the others.
split : (c : After-rises_here) →
    let a = c.args in
    let i = c.loop-i.i in
    rising_from one-f a.rates.now a.marks.now
    ≡ c.rises_here.result
    && rising_from (risen_to c.loop-i.low (get_or a.rates.now i nan) (get_or a.marks.now i 0))
    (drop (i + 1) a.rates.now) (drop (i + 1) a.marks.now)
split c =
    let a = c.args in
    c.loop-i.invariant
    ∙ rw (c.rises_here.ensures, add-one)
    (slot-by-slot c.loop-i.low a.rates.now a.marks.now c.loop-i.i (omega (arith, c.slots-n.ensures)))

pub returns-then-not-rises_here : goal.returns-then-not-rises_here
returns-then-not-rises_here c =
    let t = c.if-not-rises_here.true in sym (rw t at (split (goal.at.returns-then-not-rises_here c).After-rises_here))

pub loop-i-preserved : goal.loop-i-preserved
loop-i-preserved c =
    let t = c.if-not-rises_here.false in
    rw c.risen_to-low.ensures (rw t at (split (goal.at.loop-i-preserved c).After-rises_here))

pub returns : goal.returns
unfolding of_bits
returns c =
    let a = c.args in
    sym (c.loop-i.invariant
    ∙ nothing_left c.loop-i.low a.rates.now a.marks.now c.loop-i.i (omega (arith, c.slots-n.ensures)))
