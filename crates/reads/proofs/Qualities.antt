-- W7d. What a quality reads from a bank, by any choice of sets, depends only on its taps: both sets of a blend read the
-- same ones. Assumes nothing.
use mathlib.Core.List.{List}
use lib.Ieee.{Float}
use Rattle.sinc_bank_f32.specs.Parts.{part_of}
use Rattle.bank_choice.specs.Choosing.{chosen_of}
use Rattle.bank_choice.specs.declared.Choice.{Choice}
use Rattle.bank_read.specs.Bank.{set_at, tables_at, chosen_at, bank_at}
use Rattle.quality_mode.specs.declared.QualityMode.{QualityMode}
use Rattle.quality_mode.specs.declared.QualityMode.TheVariants.{Draft, Normal, Hq, Ultra}
use Rattle.quality_mode.specs.Quality.{taps_of, phases_of}
use Rattle.reads.specs.Local.{Local, read_by}
use Rattle.reads.proofs.Kernels.{draft, sinc-f32}

tables : (c : Choice) (q : QualityMode) (sets : List Float) → Local (taps_of q) (tables_at c q sets)
unfolding tables_at
tables c q sets xs ys a b p h =
    rw (
      sinc-f32 (part_of q (set_at sets c.safe)) (taps_of q) (phases_of q) xs ys a b p h,
      sinc-f32 (part_of q (set_at sets c.tighter)) (taps_of q) (phases_of q) xs ys a b p h,
    )

pub chosen : (c : Choice) (q : QualityMode) (sets : List Float) → Local (read_by q) (chosen_at c q sets)
unfolding chosen_at
chosen c Draft sets = draft
chosen c Normal sets = tables c Normal sets
chosen c Hq sets = tables c Hq sets
chosen c Ultra sets = tables c Ultra sets

-- A quality at a playback rate, with a bank for a maximum rate.
pub bank : (sets : List Float) (max-rate rate : Float) (q : QualityMode)
    → Local (read_by q) (bank_at sets max-rate rate q)
bank sets max-rate rate q = chosen (chosen_of max-rate rate) q sets
