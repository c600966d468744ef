use mathlib.Core.Path.{◌≡◌}
use Prim.Native.Nat.{◌-◌}
use Rattle.delay_words.specs.Delays.{least_from, whole_above}
use Rattle.delay_words.proofs.whole_above.Given as goal

abbrev pub invariant-loop-n : goal.invariant-loop-n
invariant-loop-n l = whole_above l.x ≡ least_from (65536 - l.n) l.n l.x
