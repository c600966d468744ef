-- `bank_read::one_table` meets its contract, by its four returns. Assumes nothing.
use borrow.Author.Tests.{not-true, not-false}
use mathlib.Core.Path.{◌≡◌, sym, ◌∙◌}
use mathlib.Core.Bool.{true}
use lib.ListN.{length}
use Rattle.bank_read.specs.Inner.{sets_ok}
use Rattle.bank_read.proofs.WholeSets.{both-held}
use Rattle.bank_read.proofs.OneTable.{none_of}
use Rattle.bank_read.proofs.one_table.Goals as goal
use Rattle.bank_read.proofs.one_table.Goals.{Else-not-sets_ok}

pub returns-then-not-sets_ok : goal.returns-then-not-sets_ok
returns-then-not-sets_ok c =
    let e = sym c.sets_ok.ensures ∙ not-true c.sets_ok.result c.if-not-sets_ok.true-raw in
    rw e

-- The bank has both sets.
held : (c : Else-not-sets_ok) → let a = c.args in
    sets_ok a.choice (length a.sets.now) ≡ true
held c = sym c.sets_ok.ensures ∙ not-false c.sets_ok.result c.if-not-sets_ok.false-raw

pub table_in-requires : goal.table_in-requires
table_in-requires c =
    let a = c.args in
    (both-held a.choice (length a.sets.now) (held (goal.at.table_in-requires c).Else-not-sets_ok)).0

pub returns-then-choice-eq0 : goal.returns-then-choice-eq0
returns-then-choice-eq0 c = rw (held (goal.at.returns-then-choice-eq0 c).Else-not-sets_ok, c.if-choice-eq0.true)
    c.table_in.ensures

pub table_in-requires-then-choice-eq1 : goal.table_in-requires-then-choice-eq1
table_in-requires-then-choice-eq1 c =
    let a = c.args in
    (both-held a.choice (length a.sets.now) (held (goal.at.table_in-requires-then-choice-eq1 c).Else-not-sets_ok)).1

pub returns-then-choice-eq1 : goal.returns-then-choice-eq1
returns-then-choice-eq1 c = rw (held (goal.at.returns-then-choice-eq1 c).Else-not-sets_ok, c.if-choice-eq1.true)
    c.table_in-then-choice-eq1.ensures

pub returns : goal.returns
returns c =
    rw (held (goal.at.returns c).Else-not-sets_ok) (none_of _ _ _ c.if-choice-eq0.false c.if-choice-eq1.false)
