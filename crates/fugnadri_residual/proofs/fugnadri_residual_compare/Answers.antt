-- `fugnadri_residual::fugnadri_residual_compare` meets its contract, by the two cases of the call's answer. Assumes
-- nothing.
use mathlib.Core.Path.{sym, ap, ◌∙◌}
use Rattle.std.specs.Prelude.{ℕ, Option}
use Rattle.residual.specs.Refusals.{compared_of}
use Rattle.fugnadri_residual.specs.Words.{numbers, left_by}
use Rattle.fugnadri_residual.proofs.fugnadri_residual_compare.Goals as goal

pub returns-in-Refused : goal.returns-in-Refused
returns-in-Refused c =
    let s = c.args in
    let n = numbers s.number.now s.largest.now s.placed.now s.place.now s.high.now s.low.now in
    let answer = c.compare-c.ensures
    ∙ ap (λ (p : Option ℕ).
    compared_of
    (record { number = n.number; largest = n.largest; place = p; high = n.high; low = n.low })
    s.a.now s.b.now)
    c.place_from.ensures in
    sym (ap (left_by n) (sym answer ∙ c.in-Refused.is))

pub returns-in-Carried : goal.returns-in-Carried
returns-in-Carried c =
    let s = c.args in
    let n = numbers s.number.now s.largest.now s.placed.now s.place.now s.high.now s.low.now in
    let answer = c.compare-c.ensures
    ∙ ap (λ (p : Option ℕ).
    compared_of
    (record { number = n.number; largest = n.largest; place = p; high = n.high; low = n.low })
    s.a.now s.b.now)
    c.place_from.ensures in
    rw (c.placed_of.ensures, c.index_or.ensures) (sym (ap (left_by n) (sym answer ∙ c.in-Carried.is)))
