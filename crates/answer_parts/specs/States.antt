-- A reader's state as the plain numbers that another language hands in, and the count that it gets back. Definitions
-- only.
use Rattle.std.specs.Prelude.{ℕ}
use Rattle.variable_delay.specs.declared.VariableDelay.{VariableDelay}
use Rattle.variable_delay.specs.declared.Opened.{Opened}
use Rattle.variable_delay.specs.declared.Opened.TheVariants.{Reader, Refused}

abbrev pub state_of : ℕ → ℕ → ℕ → VariableDelay
state_of maximum margin accepted = record { maximum = maximum; margin = margin; accepted = accepted }

-- D1c. The count of the reader that was opened; a refusal leaves the count that stood there.
abbrev pub count_of : ℕ → Opened → ℕ
count_of before (Reader d) = d.accepted
count_of before (Refused k) = before
