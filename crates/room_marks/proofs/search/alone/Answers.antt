-- `room_marks::search::alone` meets its contract: a free slot is always in range, a held one by its mark, its rate and
-- the later slots. Assumes nothing.
use mathlib.Core.Path.{◌≡◌, refl, sym, ◌∙◌}
use mathlib.Core.Bool.{false, ◌&&◌}
use mathlib.Core.List.{List}
use Prim.Native.Nat.{ℕ, suc, ◌+◌, ◌-◌}
use native.Mathlib.Numerals.{add-one}
use native.Mathlib.Omega.{arith}
use borrow.Author.Tests.{ne_eqb}
use lib.Dec.{eqb}
use lib.ListN.{length, get_or, take, drop, length-drop}
use lib.Seq.{take_all}
use lib.Ieee.{nan, of_bits}
use Rattle.sinc_settings.specs.Ranges.{rate_ok}
use Rattle.room_marks.specs.Marks.{mark_ok, mode_in}
use Rattle.room_marks.specs.Slots.{some, has_set}
use Rattle.room_marks.proofs.Searching.{held-alone, free-alone}
use Rattle.room_marks.proofs.search.alone.Goals as goal
use Rattle.room_marks.proofs.search.alone.Goals.{After-any_set, After-both, Else-mark-eq0}

pub returns-then-mark-eq0 : goal.returns-then-mark-eq0
returns-then-mark-eq0 c =
    let a = c.args in
    free-alone a.rates.now a.marks.now a.i c.if-mark-eq0.true

-- What the code has tested of a held slot.
held : (c : Else-mark-eq0)
    → let a = c.args in eqb (get_or a.marks.now a.i 0) 0 ≡ false
held c = ne_eqb _ 0 c.if-mark-eq0.false

tested : (c : After-both) → let a = c.args in
    mark_ok (get_or a.marks.now a.i 0) && rate_ok (get_or a.rates.now a.i nan) ≡ c.both.result
unfolding of_bits
tested c =
    sym (c.both.ensures ∙ rw (c.within.ensures, c.mark_ok.ensures))

pub returns-then-not-both : goal.returns-then-not-both
returns-then-not-both c =
    let a = c.args in
    sym (held-alone a.rates.now a.marks.now a.i (held (goal.at.returns-then-not-both c).Else-mark-eq0)
    ∙ rw (tested (goal.at.returns-then-not-both c).After-both ∙ c.if-not-both.true))

rest : {A : Type 0} (xs : List A) (i n : ℕ) → n ≡ length xs - (i + 1) → take n (drop (i + 1) xs) ≡ drop (suc i) xs
rest xs i n e = rw add-one (take_all n (drop (suc i) xs) (simp length-drop (omega arith)))

-- The later slots, as they are lent.
later : (c : After-any_set) →
    let a = c.args in
    let m = get_or a.marks.now a.i 0 in
    c.any_set.result
    ≡ some (has_set (get_or a.rates.now a.i nan) (mode_in m)) (drop (suc a.i) a.rates.now)
    (drop (suc a.i) a.marks.now)
later c =
    let a = c.args in
    rw (c.mode_in.ensures, rest a.rates.now a.i _ refl, rest a.marks.now a.i _ refl)
    at c.any_set.ensures

pub returns : goal.returns
returns c =
    let a = c.args in
    sym (held-alone a.rates.now a.marks.now a.i (held (goal.at.returns c).Else-mark-eq0)
    ∙ rw (tested (goal.at.returns c).After-both ∙ c.if-not-both.false, later c))
