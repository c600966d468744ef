-- T4, T5. 000's SincBankF32::sample over lent sets: what a quality reads at a rate. Definitions only.
use Rattle.std.specs.Prelude.{ℕ, zero, suc, ◌*◌, not, ◌&&◌, List, [], ◌∷◌, eqb, length, take, drop, Float}
use Rattle.std.specs.Float.{binary32}
use Rattle.std.specs.Float.Ieee.{add, sub, mul, is_nan}
use Rattle.answer.specs.declared.AnswerF32.{AnswerF32}
use Rattle.answer.specs.Answers.{answer_f32_of}
use Rattle.refusal_order.specs.Order.{◌unless◌, first_of}
use Rattle.ring.specs.Places.{position_ok}
use Rattle.cubic_farrow_f32.specs.Draft.{draft_at}
use Rattle.sinc_read_f32.specs.Reading.{sinc_f32_at}
use Rattle.bank_choice.specs.Rates.{bank_ok}
use Rattle.bank_choice.specs.Choosing.{chosen_of}
use Rattle.bank_choice.specs.declared.Choice.{Choice}
use Rattle.sinc_bank_f32.specs.Sets.{set_length, bank_length}
use Rattle.sinc_bank_f32.specs.Parts.{part_of}
use Rattle.quality_mode.specs.declared.QualityMode.{QualityMode}
use Rattle.quality_mode.specs.declared.QualityMode.TheVariants.{Draft, Normal, Hq, Ultra}
use Rattle.quality_mode.specs.Quality.{taps_of, phases_of}

-- Set k of a bank, counted from 0.
unfoldable pub set_at : List Float → ℕ → List Float
set_at sets k = take set_length (drop (k * set_length) sets)

-- 000's sample_set: what the quality's table in a set reads.
abbrev pub table_at : QualityMode → List Float → List Float → ℕ → Float → Float
table_at q set xs count p = sinc_f32_at (part_of q set) (taps_of q) (phases_of q) xs count p

-- The blend of the readings a of the safe set and b of the tighter set: a for 0, b for 1, and otherwise `a + (b - a) *
-- blend`, each step rounded to f32.
abbrev pub blended : ℕ → Float → Float → Float → Float
blended zero blend a b = a
blended (suc zero) blend a b = b
blended (suc (suc k)) blend a b = add binary32 a (mul binary32 (sub binary32 b a) blend)

unfoldable pub tables_at : Choice → QualityMode → List Float → List Float → ℕ → Float → Float
tables_at c q sets xs count p =
    blended c.which c.blend (table_at q (set_at sets c.safe) xs count p)
    (table_at q (set_at sets c.tighter) xs count p)

-- What a quality reads by a choice of sets. Draft reads no set.
unfoldable pub chosen_at : Choice → QualityMode → List Float → List Float → ℕ → Float → Float
chosen_at c Draft sets xs count p = draft_at xs count p
chosen_at c Normal sets xs count p = tables_at c Normal sets xs count p
chosen_at c Hq sets xs count p = tables_at c Hq sets xs count p
chosen_at c Ultra sets xs count p = tables_at c Ultra sets xs count p

-- What a quality reads at a rate from a bank for the maximum rate `max-rate`.
abbrev pub bank_at : List Float → Float → Float → QualityMode → List Float → ℕ → Float → Float
bank_at sets max-rate rate q xs count p = chosen_at (chosen_of max-rate rate) q sets xs count p

-- N1, N2, N7. The number of the refusal, 0 for none, for every quality: the tests are of the bank's rate and the
-- position, of the bank's length, and of a rate that is a NaN.
abbrev pub sample_verdict : Float → Float → ℕ → Float → ℕ
sample_verdict max-rate rate len p =
    first_of
    (1 unless (bank_ok max-rate && position_ok p)
    ∷ 2 unless eqb len (bank_length max-rate)
    ∷ 7 unless not (is_nan rate)
    ∷ [])

abbrev pub sampled_of : List Float → Float → Float → QualityMode → List Float → ℕ → Float → AnswerF32
sampled_of sets max-rate rate q xs count p =
    answer_f32_of (sample_verdict max-rate rate (length sets) p) (bank_at sets max-rate rate q xs count p)
