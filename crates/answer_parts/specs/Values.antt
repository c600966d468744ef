-- E2 to E4. The value of an answer of the elementary functions, +0.0 if refused. Definitions only.
use Rattle.std.specs.Prelude.{Float, Result, Ok, Err}
use Rattle.refusal.specs.declared.Refusal.{Refusal}
use Rattle.constants.specs.Numbers.{zero-f}

abbrev pub value_of : Result Float Refusal → Float
value_of (Ok v) = v
value_of (Err r) = zero-f
