-- W11f. The absent taps of one inner reading: those of the inner reader's own call, none if that is refused, as it is
-- if its sample overflowed (W11d). Definitions only.
use Rattle.std.specs.Prelude.{ℕ, true, List, length, Float}
use Rattle.variable_delay.specs.Reader.{verdict}
use Rattle.variable_delay.specs.declared.VariableDelay.{VariableDelay}
use Rattle.absent_taps.specs.declared.Absent.{Absent}
use Rattle.told_call.specs.Told.{unless_refused, absent_of_call}

-- n is the number of taps that the kernel reads.
abbrev pub inside : ℕ → VariableDelay → List Float → Float → Float → Absent
inside n d xs x y = unless_refused (verdict true true d (length xs) x y) (absent_of_call d.accepted xs x y n)
