-- The reading as a function without refusals gives it, for a reader that has already tested its bank and its position.
-- What is promised stands in Bank.antt, which does not use it. Definitions only.
use Rattle.std.specs.Prelude.{ℕ, ◌+◌, ◌*◌, Bool, true, ◌&&◌, cond, List, leb, length, Float}
use Rattle.answer.specs.Answers.{zero-f}
use Rattle.ring.specs.Places.{position_ok}
use Rattle.bank_choice.specs.declared.Choice.{Choice}
use Rattle.sinc_bank_f32.specs.Sets.{set_length}
use Rattle.quality_mode.specs.declared.QualityMode.{QualityMode}
use Rattle.quality_mode.specs.declared.QualityMode.TheVariants.{Draft, Normal, Hq, Ultra}
use Rattle.bank_read.specs.Bank.{chosen_at}

-- Whether a bank of n f32 values has both sets of a choice.
abbrev pub sets_ok : Choice → ℕ → Bool
sets_ok c n = leb ((c.safe + 1) * set_length) n && leb ((c.tighter + 1) * set_length) n

abbrev pub held_ok : Choice → QualityMode → ℕ → Bool
held_ok c Draft n = true
held_ok c Normal n = sets_ok c n
held_ok c Hq n = sets_ok c n
held_ok c Ultra n = sets_ok c n

-- G3. Zero if the bank does not have the sets of the choice, or if the position is out of range.
abbrev pub read_of : Choice → QualityMode → List Float → List Float → ℕ → Float → Float
read_of c q sets xs count p = cond (held_ok c q (length sets) && position_ok p) (chosen_at c q sets xs count p) zero-f
