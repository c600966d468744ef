-- `arguments::value_at` meets its contract, by that of `split`. Assumes nothing.
use native.Mathlib.Omega.{arith}
use Rattle.arguments.proofs.value_at.Goals as goal

pub returns-then-at-text : goal.returns-then-at-text
returns-then-at-text c = rw (← c.split-at.ensures.value) record { value = omega arith; upper_bound = omega arith }

pub returns-else-at-text : goal.returns-else-at-text
returns-else-at-text c = rw (← c.split-at.ensures.value) record { value = omega arith; upper_bound = omega arith }
