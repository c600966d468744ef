-- `bank_read::lent::table_read` meets its contract: the part that `chosen` hands back is the quality's table,
-- of its own length. Assumes nothing.
use mathlib.Core.Path.{◌≡◌}
use mathlib.Core.Bool.{Bool, true, false}
use mathlib.Core.List.{List}
use lib.ListN.{length}
use lib.Ieee.{Float}
use Rattle.sinc_bank_f32.specs.Sets.{set_length}
use Rattle.sinc_bank_f32.specs.Parts.{pick_slice}
use Rattle.bank_read.proofs.QualityTables.{table_is}
use Rattle.bank_read.proofs.lent.table_read.Goals as goal

picked : (tight : Bool) (a b : List Float) → length a ≡ set_length → length b ≡ set_length
    → length (pick_slice tight a b) ≡ set_length
picked true a b p q = p
picked false a b p q = q

pub returns : goal.returns
returns c =
    let a = c.args in
    rw (c.read.ensures, c.phases-phases.ensures, c.taps-taps.ensures, c.chosen-table.ensures)
    (table_is a.source.now a.count a.position c.requires.2 a.quality
    (pick_slice a.tight a.tighter.now a.safe.now)
    (picked a.tight a.tighter.now a.safe.now c.requires.1 c.requires.0))
