use mathlib.Core.Path.{◌≡◌}
use Prim.Native.Nat.{◌-◌, ◌^◌, ◌<◌}
use lib.ListN.{length, drop}
use Rattle.word_bytes.specs.Bytes.{bytes_value}
use Rattle.word_bytes.proofs.as_bytes.read_bytes.Given as goal

abbrev pub invariant-loop-k : goal.invariant-loop-k
invariant-loop-k l = (l.v < 256 ^ (length l.s - l.k)) × (l.v ≡ bytes_value (drop l.k l.s))
