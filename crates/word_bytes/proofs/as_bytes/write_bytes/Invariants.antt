use mathlib.Core.Path.{◌≡◌}
use mathlib.Core.List.{◌++◌}
use Prim.Native.Nat.{◌-◌}
use lib.ListN.{length, take}
use Rattle.word_bytes.specs.Bytes.{low_bytes}
use Rattle.word_bytes.proofs.as_bytes.write_bytes.Given as goal

abbrev pub invariant-loop-byte : goal.invariant-loop-byte
invariant-loop-byte l =
    low_bytes (length l.initial.out) l.n ≡ take l.byte-index l.out ++ low_bytes (length l.out - l.byte-index) l.v
