-- T4, T5. The one table that a quality reads by a choice of sets, if it reads one. Definitions only.
use Rattle.std.specs.Prelude.{ℕ, zero, suc, List, [], length, Float}
use Rattle.bank_choice.specs.declared.Choice.{Choice}
use Rattle.sinc_bank_f32.specs.Parts.{pick_slice, lent_of}
use Rattle.quality_mode.specs.declared.QualityMode.{QualityMode}
use Rattle.bank_read.specs.Bank.{set_at}
use Rattle.bank_read.specs.Inner.{sets_ok}

-- The safe set's for 0, the tighter set's for 1, and none if both are blended.
abbrev pub of_which : ℕ → List Float → List Float → List Float
of_which zero a b = a
of_which (suc zero) a b = b
of_which (suc (suc k)) a b = []

abbrev pub one_table : Choice → QualityMode → List Float → List Float
one_table c q sets =
    pick_slice (sets_ok c (length sets))
    (of_which c.which (lent_of q (set_at sets c.safe)) (lent_of q (set_at sets c.tighter))) []
