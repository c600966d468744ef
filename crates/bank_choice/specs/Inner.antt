-- The choice by the function that refuses nothing, for a reader that has tested the bank's rate already. It is no part
-- of what is promised, which stands in Choosing.antt. Definitions only.
use Rattle.std.specs.Prelude.{Bool, true, false, Float}
use Rattle.bank_choice.specs.declared.Choice.{Choice}
use Rattle.bank_choice.specs.Rates.{bank_ok}
use Rattle.bank_choice.specs.Choosing.{chosen_of, no_choice}

abbrev pub pick_choice : Bool → Choice → Choice → Choice
pick_choice true a b = a
pick_choice false a b = b

-- All fields are zero if the bank's rate is out of range.
abbrev pub choice_of : Float → Float → Choice
choice_of max-rate rate = pick_choice (bank_ok max-rate) (chosen_of max-rate rate) no_choice
