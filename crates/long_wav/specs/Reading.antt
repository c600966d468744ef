-- W10. A WAV file of any length read from its first bytes: the refusal, or the part that holds the samples and what
-- they are. How the tag follows from the body of `fmt ` and its size is a parameter. Definitions only.
use Rattle.std.specs.Prelude.{ℕ, ◌+◌, not, cond, ◌&&◌, List, [], ◌∷◌, eqb, leb, length}
use Rattle.refusal_order.specs.Order.{Test, ◌unless◌, first_of}
use Rattle.riff_chunks.specs.declared.Chunk.{Chunk}
use Rattle.riff_chunks.specs.declared.Walked.{Walked}
use Rattle.riff_chunks.specs.Walk.{riff_sought, walked_from, walk_to}
use Rattle.wav_format.specs.Format.{number, format_ok}
use Rattle.wav_format.specs.Tags.{plain_tag, wrapped_tag}
use Rattle.wav.specs.declared.Found.{Found}
use Rattle.wav.specs.declared.Wave.{Wave}
use Rattle.wav.specs.Wave.{part_of, wave_of, answered}
use Rattle.true_sizes.specs.Sizes.{true_size}
use Rattle.wav_opening.specs.Opening.{end_of, is_wave, sizes_there, sizes_small, riff_held, opening_needs}
use Rattle.wav_opening.specs.Opening.{opening_tests}

-- The chunk whose identifier stands at a place, with its true size.
abbrev pub chunk_in : List ℕ → ℕ → Chunk
chunk_in b at =
    record { id = number 4 b at; body = at + 8; size = true_size b (number 4 b at) (number 4 b (at + 4)) }

abbrev pub walk_in : List ℕ → ℕ → Walked
walk_in b size = walk_to riff_sought (chunk_in b) (end_of b size)

-- The body of the first `fmt `.
abbrev pub fmt_in : List ℕ → ℕ → List ℕ
fmt_in b size = part_of b (walk_in b size).format.body (walk_in b size).format.size

-- ---- how many bytes must be lent
-- The place behind the first head that is not lent, or 0 if all are.
unfoldable pub missing : ℕ → List Chunk → ℕ
missing n [] = 0
missing n (c ∷ cs) = cond (leb c.body n) (missing n cs) c.body

-- The chunks are walked only if the opening is not refused. A `fmt ` that 13 tests stands before a `data` that was
-- walked, so its body is lent if the heads are.
abbrev pub heads_need : List ℕ → ℕ → ℕ
heads_need b size =
    cond (eqb (first_of (opening_tests b size)) 0)
    (missing (length b) (walked_from riff_sought (chunk_in b) (end_of b size) 12)) 0

-- How many of the file's first bytes the caller must lend to continue, or 0 if enough are lent.
unfoldable pub needs_of : List ℕ → ℕ → ℕ
needs_of b size = cond (eqb (opening_needs b size) 0) (heads_need b size) (opening_needs b size)

-- ---- the answer
abbrev pub tag_in : (List ℕ → ℕ → ℕ) → List ℕ → ℕ → ℕ
tag_in tag_of b size = tag_of (fmt_in b size) (walk_in b size).format.size

-- W10f. 1: more bytes are lent than the file has. 2: a byte that must be read is not lent. Then 9, 18, 19, and 10 to 13
-- as in Wish 1.
abbrev pub tests : (List ℕ → ℕ → ℕ) → List ℕ → ℕ → List Test
tests tag_of b size =
    1 unless leb (length b) size
    ∷ 2 unless eqb (needs_of b size) 0
    ∷ 9 unless is_wave b size
    ∷ 18 unless sizes_there b size
    ∷ 19 unless sizes_small b size
    ∷ 10 unless (riff_held b size && not (walk_in b size).overruns)
    ∷ 11 unless (walk_in b size).format.found
    ∷ 12 unless (walk_in b size).samples.found
    ∷ 13 unless format_ok (tag_in tag_of b size) (fmt_in b size) (walk_in b size).format.size
    (walk_in b size).samples.size
    ∷ []

abbrev pub verdict : (List ℕ → ℕ → ℕ) → List ℕ → ℕ → ℕ
verdict tag_of b size = first_of (tests tag_of b size)

abbrev pub wave_in : (List ℕ → ℕ → ℕ) → List ℕ → ℕ → Wave
wave_in tag_of b size = wave_of (tag_in tag_of b size) (fmt_in b size) (walk_in b size)

abbrev pub header_by : (List ℕ → ℕ → ℕ) → List ℕ → ℕ → Found
header_by tag_of b size = answered (verdict tag_of b size) (wave_in tag_of b size)

-- The two readings: by the tag as it stands, and by the tag inside WAVE_FORMAT_EXTENSIBLE.
abbrev pub header_in : List ℕ → ℕ → Found
header_in = header_by plain_tag

abbrev pub header_wrapped : List ℕ → ℕ → Found
header_wrapped = header_by wrapped_tag
