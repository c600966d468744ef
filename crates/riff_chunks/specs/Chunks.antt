-- W1. The chunks of a file: an identifier of four bytes, a size of four bytes, that many bytes of body, and a pad byte
-- behind a body of odd size. Which chunk stands at a place is a parameter, because another layout may have its sizes in
-- another order of bytes, or their true values elsewhere. Definitions only.
use Rattle.std.specs.Prelude.{ℕ, zero, suc, ◌+◌, ◌%◌, ◌≡◌, Bool, true, false, cond, ◌||◌, List, [], ◌∷◌, eqb, leb, ltb}
use Rattle.std.specs.Prelude.{take, drop}
use Rattle.word_bytes.specs.Bytes.{bytes_value}
use Rattle.riff_chunks.specs.declared.Chunk.{Chunk}
use Rattle.riff_chunks.specs.declared.Spot.{Spot}

-- The chunk whose identifier stands at a place. `number` says which number the four bytes of a size are. An identifier
-- is read as a number, low byte first; a body is given by the place of its first byte.
abbrev pub chunk_at : (List ℕ → ℕ) → List ℕ → ℕ → Chunk
chunk_at number b at =
    record { id = bytes_value (take 4 (drop at b)); body = at + 8; size = number (take 4 (drop (at + 4) b)) }

-- In every layout a body begins 8 bytes behind the place of its identifier.
abbrev pub Placed : (ℕ → Chunk) → Type 0
Placed chunk_of = (at : ℕ) → (chunk_of at).body ≡ at + 8

abbrev pub overruns : ℕ → Chunk → Bool
overruns end c = ltb end (c.body + c.size)

-- The place behind a chunk and its pad byte.
abbrev pub after : Chunk → ℕ
after c = c.body + c.size + c.size % 2

-- The chunks from a place on, if 8 bytes are left there before the end; at most `most` of them. A chunk that runs past
-- the end is the last.
unfoldable pub chunks_from : (ℕ → Chunk) → ℕ → Bool → ℕ → ℕ → List Chunk
chunks_from chunk_of zero more end at = []
chunks_from chunk_of (suc most) false end at = []
chunks_from chunk_of (suc most) true end at =
    let c = chunk_of at in c ∷ chunks_from chunk_of most (leb (after c + 8) end) end (after c)

-- All chunks from a place on. There cannot be more of them than bytes.
abbrev pub chunks : (ℕ → Chunk) → ℕ → ℕ → List Chunk
chunks chunk_of end at = chunks_from chunk_of end (leb (at + 8) end) end at

-- One of the chunks runs past the end.
unfoldable pub overrun : ℕ → List Chunk → Bool
overrun end [] = false
overrun end (c ∷ cs) = overruns end c || overrun end cs

-- Where the body of the first chunk with an identifier stands, and its size.
abbrev pub nowhere : Spot
nowhere = record { found = false; body = 0; size = 0 }

abbrev pub spot_of : Chunk → Spot
spot_of c = record { found = true; body = c.body; size = c.size }

unfoldable pub first : ℕ → List Chunk → Spot
first id [] = nowhere
first id (c ∷ cs) = cond (eqb c.id id) (spot_of c) (first id cs)
