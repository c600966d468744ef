use mathlib.Core.Path.{◌≡◌}
use mathlib.Core.List.{◌++◌}
use Prim.Native.Nat.{◌-◌, ◌≤◌}
use lib.ListN.{length, drop}
use Rattle.line_text.specs.Columns.{last_digits}
use Rattle.line_text.proofs.put_places.Given as goal

abbrev pub invariant-loop-k : goal.invariant-loop-k
invariant-loop-k l =
    (length l.digits ≡ 20)
    × (l.from ≤ l.k)
    × (last_digits (20 - l.from) l.n ≡ last_digits (l.k - l.from) l.v ++ drop l.k l.digits)
