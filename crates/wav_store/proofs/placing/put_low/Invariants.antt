use mathlib.Core.Path.{◌≡◌}
use mathlib.Core.List.{◌++◌}
use Prim.Native.Nat.{◌-◌}
use lib.ListN.{length, take}
use Rattle.word_bytes.specs.Bytes.{low_bytes}
use Rattle.wav_store.proofs.placing.put_low.Given as goal

abbrev pub invariant-loop-byte : goal.invariant-loop-byte
invariant-loop-byte l =
    low_bytes (length l.initial.out) l.w ≡ take l.byte-index l.out ++ low_bytes (length l.out - l.byte-index) l.rest
