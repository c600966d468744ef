use mathlib.Core.Path.{◌≡◌}
use Prim.Native.Nat.{◌^◌, ◌<◌}
use lib.ListN.{drop}
use Rattle.word_bytes.specs.Hex.{hex_value}
use Rattle.word_bytes.proofs.as_text.read_hex.Given as goal

abbrev pub invariant-loop-c : goal.invariant-loop-c
invariant-loop-c l = (l.v < 16 ^ l.c-index) × (hex_value 0 l.s ≡ hex_value l.v (drop l.c-index l.s))
