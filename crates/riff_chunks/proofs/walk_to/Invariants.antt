use mathlib.Core.List.{List}
use Prim.Native.Nat.{ℕ}
use Rattle.word_bytes.specs.Bytes.{bytes_value}
use Rattle.riff_chunks.specs.declared.Chunk.{Chunk}
use Rattle.riff_chunks.specs.Chunks.{chunk_at}
use Rattle.riff_chunks.specs.Walk.{riff_sought}
use Rattle.riff_chunks.proofs.ByTurns.{On}
use Rattle.riff_chunks.proofs.walk_to.Given as goal

abbrev pub riff : List ℕ → ℕ → Chunk
riff = chunk_at bytes_value

abbrev pub invariant-loop-walking : goal.invariant-loop-walking
invariant-loop-walking l = On riff_sought (riff l.file) l.end l.walking

abbrev pub decreases-loop-walking : goal.decreases-loop-walking
decreases-loop-walking l = l.walking.left
