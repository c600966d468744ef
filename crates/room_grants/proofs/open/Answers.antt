-- `room_grants::open` meets its contract: it is refused by the lengths, or both lists are cleared. Assumes nothing.
use mathlib.Core.Path.{◌≡◌, refl, ◌∙◌, ap}
use mathlib.Core.Bool.{Bool, cond}
use Rattle.room_grants.specs.Grants.{open_verdict}
use Rattle.room_grants.proofs.Answering.{open_is, by-verdict}
use Rattle.room_grants.proofs.open.Goals as goal
use Rattle.room_grants.proofs.open.Goals.{After-lengths_agree}

verdict : (c : After-lengths_agree) → let a = c.args in
    open_verdict a.rates.now a.marks.now a.floats ≡ cond c.lengths_agree.result 0 2
verdict c =
    let a = c.args in
    open_is a.rates.now a.marks.now a.floats c.lengths_agree.result c.lengths_agree.ensures

pub returns-then-not-lengths_agree : goal.returns-then-not-lengths_agree
returns-then-not-lengths_agree c =
    let no = verdict (goal.at.returns-then-not-lengths_agree c).After-lengths_agree
    ∙ ap (λ (b : Bool). cond b 0 2) c.if-not-lengths_agree.true in
    let a = c.args in
    let both = by-verdict a.rates.now a.marks.now no refl refl in
    record { value = both.0; rates_after = both.1.0; marks_after = both.1.1 }

pub returns : goal.returns
returns c =
    let no = verdict (goal.at.returns c).After-lengths_agree
    ∙ ap (λ (b : Bool). cond b 0 2) c.if-not-lengths_agree.false in
    let a = c.args in
    let both = by-verdict a.rates.now a.marks.now no c.clear.ensures c.clear_marks.ensures in
    record { value = both.0; rates_after = both.1.0; marks_after = both.1.1 }

pub shape_of-rates-then-not-lengths_agree : goal.shape_of-rates-then-not-lengths_agree
shape_of-rates-then-not-lengths_agree c = refl

pub shape_of-marks-then-not-lengths_agree : goal.shape_of-marks-then-not-lengths_agree
shape_of-marks-then-not-lengths_agree c = refl
