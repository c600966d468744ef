-- W1. The walk over the chunks of a file, from behind its first 12 bytes on. It looks for two identifiers; the first
-- chunk of each counts, and one with the second identifier may end the walk. Definitions only.
use Rattle.std.specs.Prelude.{ℕ, zero, suc, ◌+◌, ◌-◌, ◌%◌, min, Bool, true, false, cond, ◌&&◌, ◌||◌, List, [], ◌∷◌, eqb}
use Rattle.std.specs.Prelude.{ltb, length}
use Rattle.word_bytes.specs.Bytes.{bytes_value}
use Rattle.riff_chunks.specs.declared.Chunk.{Chunk}
use Rattle.riff_chunks.specs.declared.Sought.{Sought}
use Rattle.riff_chunks.specs.declared.Spot.{Spot}
use Rattle.riff_chunks.specs.declared.Walked.{Walked}
use Rattle.riff_chunks.specs.declared.Walking.{Walking}
use Rattle.riff_chunks.specs.Chunks.{chunk_at, chunks, overrun, nowhere, spot_of, first}

-- The walk looks for `fmt ` and `data`, and the first `data` ends it.
abbrev pub fmt_id : ℕ
fmt_id = 0x2074_6d66

abbrev pub data_id : ℕ
data_id = 0x6174_6164

abbrev pub riff_sought : Sought
riff_sought = record { format = fmt_id; samples = data_id; ends = true }

-- The chunks up to the first one that ends the walk, which is included; all of them if none does.
abbrev pub is_last : Sought → Chunk → Bool
is_last s c = s.ends && eqb c.id s.samples

unfoldable pub up_to : Sought → List Chunk → List Chunk
up_to s [] = []
up_to s (c ∷ cs) = c ∷ cond (is_last s c) [] (up_to s cs)

-- The chunks that are walked from a place on, up to an end, and what is seen of them.
abbrev pub walked_from : Sought → (ℕ → Chunk) → ℕ → ℕ → List Chunk
walked_from s chunk_of end at = up_to s (chunks chunk_of end at)

abbrev pub seen_of : Sought → ℕ → List Chunk → Walked
seen_of s end cs = record { overruns = overrun end cs; format = first s.format cs; samples = first s.samples cs }

abbrev pub walk_from : Sought → (ℕ → Chunk) → ℕ → ℕ → Walked
walk_from s chunk_of end at = seen_of s end (walked_from s chunk_of end at)

abbrev pub walk_to : Sought → (ℕ → Chunk) → ℕ → Walked
walk_to s chunk_of end = walk_from s chunk_of end 12

-- A walk does not go on behind the file: an end beyond it is replaced by the file's.
abbrev pub end_in : List ℕ → ℕ → ℕ
end_in b end = min end (length b)

-- The walk of RIFF, whose sizes have their low byte first.
abbrev pub walk_of : List ℕ → ℕ → Walked
walk_of b end = walk_to riff_sought (chunk_at bytes_value b) (end_in b end)

-- ---- the walk step by step: how many bytes are left before the end, and what has been seen
abbrev pub begun : ℕ → Walking
begun end = record { left = end - 12; seen = record { overruns = false; format = nowhere; samples = nowhere } }

-- How many bytes are left behind a chunk that has `room` bytes between its header and the end.
abbrev pub left_after : Sought → Chunk → ℕ → ℕ
left_after s c room = cond (is_last s c) 0 (cond (ltb room c.size) 0 (room - (c.size + c.size % 2)))

abbrev pub or_else : Spot → Spot → Spot
or_else s t = cond s.found s t

abbrev pub spot_if : ℕ → Chunk → Spot
spot_if id c = cond (eqb c.id id) (spot_of c) nowhere

abbrev pub noted : Sought → Walked → Chunk → Bool → Walked
noted s w c over =
    record {
      overruns = w.overruns || over;
      format = or_else w.format (spot_if s.format c);
      samples = or_else w.samples (spot_if s.samples c);
    }

-- One more chunk. Its header takes 8 of the bytes that are left.
abbrev pub turned : Sought → Walking → Chunk → Walking
turned s w c =
    record { left = left_after s c (w.left - 8); seen = noted s w.seen c (ltb (w.left - 8) c.size) }

-- The walk after n steps, for a walk whose chunks are lent one after the other.
unfoldable pub turns_by : (Walking → Walking) → ℕ → Walking → Walking
turns_by step zero w = w
turns_by step (suc n) w = turns_by step n (step w)
