-- `room_grants::ask` meets its contract: it is refused by the tests that it shares with giving up, or it goes by where
-- the set is found. Assumes nothing.
use borrow.Author.Rules.{rules}
use mathlib.Core.Path.{◌≡◌, refl, sym, ◌∙◌, ap}
use Prim.Native.Nat.{◌≤◌, ◌<◌}
use native.Mathlib.Omega.{arith}
use lib.ListN.{length, set, length-set}
use Rattle.room_grants.specs.Grants.{room_verdict}
use Rattle.room_marks.proofs.Searching.{mark-at}
use Rattle.room_grants.proofs.Answering.{by_place, in-range, refused-ask, shared-ask, anew-ask, full-ask}
use Rattle.room_grants.proofs.ask.Goals as goal
use Rattle.room_grants.proofs.ask.Goals.{Else-no-ne0, Else-there-marks, Then-free-marks}

pub returns-then-no-ne0 : goal.returns-then-no-ne0
returns-then-no-ne0 c =
    let a = c.args in
    let both = by_place a.desk a.rate a.mode a.rates.now a.marks.now
    (refused-ask a.rate a.mode a.rates.now a.marks.now a.floats c.room_due-no.result
    c.room_due-no.ensures c.if-no-ne0.true)
    refl refl in
    record { value = both.0; rates_after = both.1.0; marks_after = both.1.1 }

-- The tests that are passed.
ok : (c : Else-no-ne0) → let a = c.args in
    room_verdict a.rate a.rates.now a.marks.now a.floats ≡ 0
ok c = sym c.room_due-no.ensures ∙ c.if-no-ne0.false

lengths : (c : Else-no-ne0) → let a = c.args in length a.rates.now ≡ length a.marks.now
lengths c =
    let a = c.args in
    (in-range a.rate a.mode a.rates.now a.marks.now a.floats (ok c)).0

-- From the first search back to these tests.
pub shared_by-requires : goal.shared_by-requires
shared_by-requires c =
    let a = c.args in
    let l = lengths (goal.at.shared_by-requires c).Else-no-ne0 in
    let h = c.if-there-marks.true in
    mark-at a.rates.now a.marks.now c.set_slot-there.result
    (in-range a.rate a.mode a.rates.now a.marks.now a.floats (ok (goal.at.shared_by-requires c).Else-no-ne0)).1
    (omega (arith, l, h))

pub returns-then-there-marks : goal.returns-then-there-marks
returns-then-there-marks c =
    let a = c.args in
    let both = by_place a.desk a.rate a.mode a.rates.now a.marks.now
    (shared-ask a.rate a.mode a.rates.now a.marks.now a.floats (ok (goal.at.returns-then-there-marks c).Else-no-ne0)
    c.set_slot-there.result
    c.set_slot-there.ensures c.if-there-marks.true)
    refl (ap (set a.marks.now c.set_slot-there.result) c.shared_by.ensures) in
    record { value = both.0; rates_after = both.1.0; marks_after = both.1.1 }

-- From the second search back to the first.
missing : (c : Else-there-marks) → let a = c.args in
    length a.marks.now ≤ c.set_slot-there.result
missing c = omega (arith, c.if-there-marks.false)

inside : (c : Then-free-marks) → let a = c.args in
    c.free_slot-free.result < length a.rates.now
inside c =
    let a = c.args in
    let ok = sym c.room_due-no.ensures ∙ c.if-no-ne0.false in
    let l = (in-range a.rate a.mode a.rates.now a.marks.now a.floats ok).0 in
    let h = c.if-free-marks.true in
    omega (arith, l, h)

pub offset_bounds-rates-free : goal.offset_bounds-rates-free
offset_bounds-rates-free c =
    let h = inside (goal.at.offset_bounds-rates-free c).Then-free-marks in search rules

pub returns-then-free-marks : goal.returns-then-free-marks
returns-then-free-marks c =
    let a = c.args in
    let both = by_place a.desk a.rate a.mode a.rates.now a.marks.now
    (anew-ask a.rate a.mode a.rates.now a.marks.now a.floats (ok (goal.at.returns-then-free-marks c).Else-no-ne0)
    c.set_slot-there.result
    c.set_slot-there.ensures (missing (goal.at.returns-then-free-marks c).Else-there-marks)
    c.free_slot-free.result c.free_slot-free.ensures c.if-free-marks.true)
    refl (ap (set a.marks.now c.free_slot-free.result) c.built_by.ensures) in
    record { value = both.0; rates_after = both.1.0; marks_after = both.1.1 }

pub returns : goal.returns
returns c =
    let a = c.args in
    let both = by_place a.desk a.rate a.mode a.rates.now a.marks.now
    (full-ask a.rate a.mode a.rates.now a.marks.now a.floats (ok (goal.at.returns c).Else-no-ne0)
    c.set_slot-there.result
    c.set_slot-there.ensures (missing (goal.at.returns c).Else-there-marks)
    c.free_slot-free.result c.free_slot-free.ensures
    (omega (arith, c.if-free-marks.false)))
    refl refl in
    record { value = both.0; rates_after = both.1.0; marks_after = both.1.1 }

pub shape_of-rates-then-no-ne0 : goal.shape_of-rates-then-no-ne0
shape_of-rates-then-no-ne0 c = refl

pub shape_of-marks-then-no-ne0 : goal.shape_of-marks-then-no-ne0
shape_of-marks-then-no-ne0 c = refl

pub bounds-marks-there : goal.bounds-marks-there
bounds-marks-there c = c.if-there-marks.true

pub bounds-marks-there-then-there-marks : goal.bounds-marks-there-then-there-marks
bounds-marks-there-then-there-marks c = c.if-there-marks.true

pub shape_of-rates-then-there-marks : goal.shape_of-rates-then-there-marks
shape_of-rates-then-there-marks c = refl

pub shape_of-marks-then-there-marks : goal.shape_of-marks-then-there-marks
shape_of-marks-then-there-marks c = simp length-set

pub bounds-rates-free : goal.bounds-rates-free
bounds-rates-free c = inside (goal.at.bounds-rates-free c).Then-free-marks

pub bounds-marks-free : goal.bounds-marks-free
bounds-marks-free c = c.if-free-marks.true

pub shape_of-rates-then-free-marks : goal.shape_of-rates-then-free-marks
shape_of-rates-then-free-marks c = simp length-set

pub shape_of-marks-then-free-marks : goal.shape_of-marks-then-free-marks
shape_of-marks-then-free-marks c = simp length-set

pub shape_of-rates : goal.shape_of-rates
shape_of-rates c = refl

pub shape_of-marks : goal.shape_of-marks
shape_of-marks c = refl
