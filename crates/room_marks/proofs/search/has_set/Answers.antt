-- `room_marks::search::has_set` meets its contract, by whether the rates are equal. Assumes nothing.
use mathlib.Core.Path.{◌≡◌, refl, ◌∙◌}
use mathlib.Core.Bool.{Bool, true, false, not, ◌&&◌}
use Rattle.room_marks.specs.Marks.{is_free, in_mode}
use Rattle.room_marks.proofs.search.has_set.Goals as goal

last-true : (a b : Bool) → a && b ≡ a && (b && true)
last-true true true = refl
last-true true false = refl
last-true false b = refl

last-false : (a b : Bool) → false ≡ a && (b && false)
last-false true true = refl
last-false true false = refl
last-false false b = refl

pub returns-then-rate-r : goal.returns-then-rate-r
returns-then-rate-r c =
    let a = c.args in
    c.both.ensures
    ∙ rw (c.in_mode.ensures, c.if-rate-r.true)
    (last-true (not (is_free a.mark)) (in_mode a.mode a.mark))

pub returns : goal.returns
returns c =
    let a = c.args in
    rw c.if-rate-r.false (last-false (not (is_free a.mark)) (in_mode a.mode a.mark))
