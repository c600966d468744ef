-- `room_grants::give_up` meets its contract: it is refused by the tests that it shares with asking, or it goes by
-- whether the desk holds the set. Assumes nothing.
use mathlib.Core.Path.{◌≡◌, refl, sym, ◌∙◌, ap}
use native.Mathlib.Omega.{arith}
use lib.ListN.{set, length-set}
use Rattle.room_marks.specs.Marks.{held_by}
use Rattle.room_marks.specs.Slots.{own_set}
use Rattle.room_grants.specs.Grants.{room_verdict}
use Rattle.room_marks.proofs.MarkNumbers.{first_of}
use Rattle.room_marks.proofs.Searching.{first_passes}
use Rattle.room_grants.proofs.Answering.{in-range, refused-give-up, given-up, not-held}
use Rattle.room_grants.proofs.give_up.Goals as goal
use Rattle.room_grants.proofs.give_up.Goals.{Else-no-ne0}

pub returns-then-no-ne0 : goal.returns-then-no-ne0
returns-then-no-ne0 c =
    let a = c.args in
    let both = refused-give-up a.rate a.mode a.rates.now a.marks.now a.floats a.desk c.room_due-no.result
    c.room_due-no.ensures c.if-no-ne0.true in
    record { value = both.0; marks_after = both.1 }

-- The tests that are passed.
ok : (c : Else-no-ne0) → let a = c.args in
    room_verdict a.rate a.rates.now a.marks.now a.floats ≡ 0
ok c = sym c.room_due-no.ensures ∙ c.if-no-ne0.false

pub left_by-requires : goal.left_by-requires
left_by-requires c =
    let a = c.args in
    let r = in-range a.rate a.mode a.rates.now a.marks.now a.floats (ok (goal.at.left_by-requires c).Else-no-ne0) in
    let h = c.if-k-marks.true in
    let e = c.own_slot-k.ensures in
    let own = first_passes (own_set a.desk a.rate a.mode) a.rates.now a.marks.now
    (omega (arith, r.0, h, e)) in
    rw e (first_of (held_by a.desk _) _ own)

pub returns-then-k-marks : goal.returns-then-k-marks
returns-then-k-marks c =
    let a = c.args in
    let g = given-up a.rate a.mode a.rates.now a.marks.now a.floats (ok (goal.at.returns-then-k-marks c).Else-no-ne0)
    a.desk
    c.own_slot-k.result c.own_slot-k.ensures c.if-k-marks.true in
    record { value = g.0; marks_after = ap (set a.marks.now c.own_slot-k.result) c.left_by.ensures ∙ g.1 }

pub returns : goal.returns
returns c =
    let a = c.args in
    let both = not-held a.rate a.mode a.rates.now a.marks.now a.floats (ok (goal.at.returns c).Else-no-ne0)
    a.desk
    c.own_slot-k.result c.own_slot-k.ensures (omega (arith, c.if-k-marks.false)) in
    record { value = both.0; marks_after = both.1 }

pub shape_of-marks-then-no-ne0 : goal.shape_of-marks-then-no-ne0
shape_of-marks-then-no-ne0 c = refl

pub bounds-marks-k : goal.bounds-marks-k
bounds-marks-k c = c.if-k-marks.true

pub bounds-marks-k-then-k-marks : goal.bounds-marks-k-then-k-marks
bounds-marks-k-then-k-marks c = c.if-k-marks.true

pub shape_of-marks-then-k-marks : goal.shape_of-marks-then-k-marks
shape_of-marks-then-k-marks c = simp length-set

pub shape_of-marks : goal.shape_of-marks
shape_of-marks c = refl
