-- 000's QualityVariableDelayF32 over a bank of lent sets: the reader's call, with what each quality reads of the bank.
-- Definitions only.
use Rattle.std.specs.Prelude.{ℕ, ◌*◌, List, length, ◌==◌, Float}
use Rattle.bank_choice.specs.Rates.{bank_ok, steps_of}
use Rattle.sinc_bank_f32.specs.Sets.{set_length}
use Rattle.bank_read.specs.Bank.{bank_at}
use Rattle.quality_mode.specs.declared.QualityMode.{QualityMode}
use Rattle.quality_variable_delay.specs.Reader.{verdict, ring_after, processed_by}
use Rattle.quality_variable_delay.specs.declared.QualityVariableDelayF32.{QualityVariableDelayF32}
use Rattle.quality_variable_delay.specs.declared.ProcessedQ.{ProcessedQ}

-- The number of the refusal, 0 for none, if n f32 values are lent as a bank for the maximum rate `max-rate`: it must
-- lie from 1 to 2 (N1, G6), and n must be as many as its sets need (N2).
abbrev pub due_of : ℕ → Float → QualityVariableDelayF32 → ℕ → Float → Float → Float → ℕ
due_of n max-rate d len x y playback-rate =
    verdict (bank_ok max-rate) (n == steps_of max-rate * set_length) d len x y playback-rate

-- What process_sample_rate_aware answers, and the ring that it leaves.
abbrev pub processed : List Float → Float → QualityVariableDelayF32 → List Float → Float → Float → QualityMode → Float
    → ProcessedQ
processed sets max-rate d xs x y q playback-rate =
    processed_by (bank_at sets max-rate playback-rate)
    (due_of (length sets) max-rate d (length xs) x y playback-rate) d xs x y q

abbrev pub ring_left : List Float → Float → QualityVariableDelayF32 → List Float → Float → Float → Float → List Float
ring_left sets max-rate d xs x y playback-rate =
    ring_after (due_of (length sets) max-rate d (length xs) x y playback-rate) d xs x
