-- `bank_read::read` meets its contract, by its four returns. Assumes nothing.
use mathlib.Core.Path.{◌≡◌, sym, ◌∙◌}
use mathlib.Core.Bool.{true, false}
use lib.ListN.{length}
use lib.Ieee.{of_bits}
use Rattle.quality_mode.specs.declared.QualityMode.TheVariants.{Draft}
use Rattle.quality_mode.specs.Quality.{same_q}
use Rattle.bank_read.specs.Inner.{sets_ok}
use Rattle.bank_read.proofs.BankReading.{draft-read, tables-read, no_place, no-sets}
use Rattle.bank_read.proofs.read.Goals as goal
use Rattle.bank_read.proofs.read.Goals.{Else-same, Then-sets_ok}

pub returns-then-same : goal.returns-then-same
returns-then-same c =
    let a = c.args in
    c.read.ensures
    ∙ draft-read a.choice a.sets.now a.source.now a.count a.position a.quality
    (sym c.same.ensures ∙ c.if-same.true)

-- The quality is not Draft, and the bank has the sets.
no-draft : (c : Else-same) → same_q c.args.quality Draft ≡ false
no-draft c = sym c.same.ensures ∙ c.if-same.false

held : (c : Then-sets_ok) → let a = c.args in
    sets_ok a.choice (length a.sets.now) ≡ true
held c = sym c.sets_ok.ensures ∙ c.if-sets_ok.true

pub tables_read-requires : goal.tables_read-requires
tables_read-requires c = (
  held (goal.at.tables_read-requires c).Then-sets_ok,
  sym c.position_ok.ensures
      ∙ c.if-position_ok.true,
)

pub returns-then-position_ok : goal.returns-then-position_ok
returns-then-position_ok c =
    let a = c.args in
    c.tables_read.ensures
    ∙ tables-read a.choice a.sets.now a.source.now a.count a.position a.quality
    (no-draft (goal.at.returns-then-position_ok c).Else-same)
    (held (goal.at.returns-then-position_ok c).Then-sets_ok) (sym c.position_ok.ensures ∙ c.if-position_ok.true)

pub returns-else-position_ok : goal.returns-else-position_ok
unfolding of_bits
returns-else-position_ok c =
    let a = c.args in
    no_place a.choice a.sets.now a.source.now a.count a.position a.quality
    (no-draft (goal.at.returns-else-position_ok c).Else-same)
    (held (goal.at.returns-else-position_ok c).Then-sets_ok)
    (sym c.position_ok.ensures ∙ c.if-position_ok.false)

pub returns-else-sets_ok : goal.returns-else-sets_ok
unfolding of_bits
returns-else-sets_ok c =
    let a = c.args in
    no-sets a.choice a.sets.now a.source.now a.count a.position a.quality
    (no-draft (goal.at.returns-else-sets_ok c).Else-same)
    (sym c.sets_ok.ensures ∙ c.if-sets_ok.false)
