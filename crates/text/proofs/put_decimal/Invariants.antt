use mathlib.Core.Path.{◌≡◌}
use mathlib.Core.List.{◌++◌}
use Prim.Native.Nat.{suc, ◌^◌, ◌≤◌, ◌<◌}
use lib.ListN.{length, drop}
use Rattle.text.specs.Text.{decimal_to}
use Rattle.text.proofs.put_decimal.Given as goal

abbrev pub invariant-loop-v : goal.invariant-loop-v
invariant-loop-v l =
    (length l.digits ≡ 20) × (l.k ≤ 19) × (l.v < 10 ^ suc l.k)
    × (decimal_to 20 l.n ≡ decimal_to (suc l.k) l.v ++ drop (suc l.k) l.digits)

abbrev pub decreases-loop-v : goal.decreases-loop-v
decreases-loop-v l = l.k
