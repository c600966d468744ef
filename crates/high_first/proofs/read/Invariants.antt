use mathlib.Core.Path.{◌≡◌}
use Prim.Native.Nat.{◌^◌, ◌<◌}
use lib.ListN.{take}
use Rattle.high_first.specs.High.{big_value}
use Rattle.high_first.proofs.read.Given as goal

abbrev pub invariant-loop-x : goal.invariant-loop-x
invariant-loop-x l = (l.v < 256 ^ l.x-index) × (l.v ≡ big_value (take l.x-index l.s))
