-- The numbers as the code computes them, from a ring's length and the counts before and after the call. What is
-- promised stands in Told.antt, which does not use them. Definitions only.
use Rattle.std.specs.Prelude.{ℕ, cond, ◌==◌, Float}
use Rattle.ring.specs.Length.{zeros}
use Rattle.variable_delay.specs.Reader.{position_of}
use Rattle.absent_taps.specs.declared.Absent.{Absent}
use Rattle.absent_taps.specs.Absent.{none}
use Rattle.bank_choice.specs.declared.Choice.{Choice}
use Rattle.quality_fade.specs.declared.Turn.{Turn}
use Rattle.absent_qualities.specs.Readings.{of_turn}

abbrev pub counted_of : ℕ → ℕ → ℕ → Float → Choice → Turn → Absent
counted_of len before after y choice turn =
    cond (before == after) none (of_turn choice turn (zeros len) after (position_of before y))
