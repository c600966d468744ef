-- W10c. A WAV file of any length read step by step: what its opening shows, one more chunk by its first 8 bytes, and
-- the answer from the walk and the first bytes of `fmt `. The opening is lent again at every step, because the table of
-- its `ds64` may hold the chunk's size. Definitions only.
use Rattle.std.specs.Prelude.{ℕ, zero, suc, ◌+◌, ◌-◌, cond, List, take, drop}
use Rattle.riff_chunks.specs.declared.Chunk.{Chunk}
use Rattle.riff_chunks.specs.declared.Walking.{Walking}
use Rattle.riff_chunks.specs.Walk.{riff_sought, begun, turned, turns_by}
use Rattle.wav_format.specs.Format.{number}
use Rattle.wav.specs.declared.Found.{Found}
use Rattle.wav.specs.declared.Found.TheVariants as found
use Rattle.wav_turns.specs.Turns.{goes_on, finished_of}
use Rattle.true_sizes.specs.Sizes.{true_size}
use Rattle.wav_opening.specs.Opening.{begun_of}

-- The chunk with these first 8 bytes, when `left` bytes are left before the end.
abbrev pub chunk_by : List ℕ → ℕ → ℕ → List ℕ → Chunk
chunk_by opening end left head =
    record {
      id = number 4 head 0;
      body = end - left + 8;
      size = true_size opening (number 4 head 0) (number 4 head 4);
    }

abbrev pub turned_by : List ℕ → Walking → ℕ → List ℕ → Walking
turned_by opening w end head = cond (goes_on w end) (turned riff_sought w (chunk_by opening end w.left head)) w

-- ---- a whole file step by step: each step is lent the opening and the 8 bytes at its place
abbrev pub turns_of : List ℕ → List ℕ → ℕ → ℕ → Walking → Walking
turns_of opening b end = turns_by (λ (w : Walking). turned_by opening w end (take 8 (drop (end - w.left) b)))

abbrev pub by_turns : ℕ → List ℕ → ℕ → List ℕ → Found
by_turns zero opening end b =
    let w = (turns_of opening b end end (begun end)).seen in
    finished_of w (take 40 (take w.format.size (drop w.format.body b)))
by_turns (suc k) opening end b = found.Refused (suc k)

-- The answer, from what is lent step by step.
abbrev pub found_by_turns : List ℕ → List ℕ → ℕ → Found
found_by_turns opening b size = by_turns (begun_of opening size).refusal opening (begun_of opening size).end b
