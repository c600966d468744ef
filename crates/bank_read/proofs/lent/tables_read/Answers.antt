-- `bank_read::lent::tables_read` meets its contract: the bank has both sets of the choice, each as long as a set.
-- Assumes nothing.
use mathlib.Core.Path.{◌∙◌, ap}
use lib.ListN.{length}
use Rattle.bank_read.specs.Bank.{tables_at}
use Rattle.bank_read.proofs.WholeSets.{set-length, both-held}
use Rattle.bank_read.proofs.lent.tables_read.Goals as goal

pub set_at-safe-requires : goal.set_at-safe-requires
set_at-safe-requires c =
    (both-held c.args.choice (length c.args.sets.now) c.requires.0).0

pub set_at-tighter-requires : goal.set_at-tighter-requires
set_at-tighter-requires c =
    (both-held c.args.choice (length c.args.sets.now) c.requires.0).1

pub blend_read-requires : goal.blend_read-requires
blend_read-requires c =
    let held = both-held c.args.choice (length c.args.sets.now) c.requires.0 in (
      ap length c.set_at-safe.ensures ∙ set-length c.args.sets.now c.args.choice.safe held.0,
      ap length c.set_at-tighter.ensures ∙ set-length c.args.sets.now c.args.choice.tighter held.1,
      c.requires.1,
    )

pub returns : goal.returns
unfolding tables_at
returns c = rw (c.blend_read.ensures, c.set_at-tighter.ensures, c.set_at-safe.ensures)
