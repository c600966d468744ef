-- W3b. One item of a stretch, of which the refusals 1 to 3 were tested before the first item. Definitions only.
use Rattle.std.specs.Prelude.{ℕ, zero, suc, List, Float}
use Rattle.constants.specs.Numbers.{zero-f}
use Rattle.variable_delay.specs.Reader.{stored, position_of}
use Rattle.item_f32.specs.declared.Taken.{Taken}

-- The ring that an item leaves after i accepted samples, by its number, and what it hands to the kernel.
abbrev pub item_stored : ℕ → ℕ → List Float → Float → List Float
item_stored zero i xs x = stored i xs x
item_stored (suc k) i xs x = xs

abbrev pub taken_of : ℕ → ℕ → Float → Taken
taken_of zero i y = record { refusal = 0; position = position_of i y }
taken_of (suc k) i y = record { refusal = suc k; position = zero-f }
