-- W4. The reader's call over two sets that its caller chose, for sets that do not lie side by side as a bank's do: what
-- each quality reads of them. Definitions only.
use Rattle.std.specs.Prelude.{Bool, List, length, Float}
use Rattle.variable_delay.specs.Reader.{Reading}
use Rattle.bank_choice.specs.declared.Choice.{Choice}
use Rattle.bank_read.specs.Inner.{read_of}
use Rattle.quality_mode.specs.declared.QualityMode.{QualityMode}
use Rattle.quality_variable_delay.specs.Reader.{verdict, ring_after, processed_by}
use Rattle.quality_variable_delay.specs.declared.QualityVariableDelayF32.{QualityVariableDelayF32}
use Rattle.quality_variable_delay.specs.declared.ProcessedQ.{ProcessedQ}

-- What a quality reads by a choice of sets, which is zero if the lent slice does not have them.
abbrev pub read_by : Choice → List Float → QualityMode → Reading
read_by choice sets q xs count p = read_of choice q sets xs count p

-- What process_chosen answers, and the ring that it leaves. `bank` says that the rate of the choice is in range (N1),
-- `lent` that the lent sets are as the caller needs them (N2).
abbrev pub chosen_call : Choice → List Float → Bool → Bool → QualityVariableDelayF32 → List Float → Float → Float
    → QualityMode → Float → ProcessedQ
chosen_call choice sets bank lent d xs x y q playback-rate =
    processed_by (read_by choice sets) (verdict bank lent d (length xs) x y playback-rate) d xs x y q

abbrev pub ring_chosen : Bool → Bool → QualityVariableDelayF32 → List Float → Float → Float → Float → List Float
ring_chosen bank lent d xs x y playback-rate = ring_after (verdict bank lent d (length xs) x y playback-rate) d xs x
