-- W12. The chunks of a FORM: those of RIFF, except that a size has its high byte first. Definitions only.
use Rattle.std.specs.Prelude.{ℕ, false, List}
use Rattle.high_first.specs.High.{big_value}
use Rattle.riff_chunks.specs.declared.Chunk.{Chunk}
use Rattle.riff_chunks.specs.declared.Sought.{Sought}
use Rattle.riff_chunks.specs.declared.Walked.{Walked}
use Rattle.riff_chunks.specs.Chunks.{chunk_at}
use Rattle.riff_chunks.specs.Walk.{walk_to, end_in}

abbrev pub comm_id : ℕ
comm_id = 0x4d4d_4f43

abbrev pub ssnd_id : ℕ
ssnd_id = 0x444e_5353

-- The two may stand in either order, so neither ends the walk.
abbrev pub form_sought : Sought
form_sought = record { format = comm_id; samples = ssnd_id; ends = false }

abbrev pub form_chunk : List ℕ → ℕ → Chunk
form_chunk b = chunk_at big_value b

-- The walk goes no further than the file.
abbrev pub form_walk : List ℕ → ℕ → Walked
form_walk b end = walk_to form_sought (form_chunk b) (end_in b end)
