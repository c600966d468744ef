use mathlib.Core.Path.{◌≡◌}
use mathlib.Core.List.{◌++◌}
use lib.ListN.{length, drop}
use Rattle.word_bytes.specs.Hex.{hex_digits}
use Rattle.word_bytes.proofs.as_text.hex16.Given as goal

abbrev pub invariant-loop-k : goal.invariant-loop-k
invariant-loop-k l = (length l.out ≡ 16) × (hex_digits 16 l.n ≡ hex_digits l.k l.v ++ drop l.k l.out)
