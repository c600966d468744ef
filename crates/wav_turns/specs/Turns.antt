-- W1. A RIFF WAVE file read step by step: what its beginning shows, one more chunk by its first 8 bytes, and the answer
-- from the walk and the first bytes of `fmt `. Definitions only.
use Rattle.std.specs.Prelude.{ℕ, zero, suc, ◌+◌, ◌-◌, Bool, true, not, cond, ◌&&◌, List, [], ◌∷◌, leb, take, drop}
use Rattle.refusal_order.specs.Order.{◌unless◌, first_of}
use Rattle.riff_chunks.specs.declared.Chunk.{Chunk}
use Rattle.riff_chunks.specs.declared.Walked.{Walked}
use Rattle.riff_chunks.specs.declared.Walking.{Walking}
use Rattle.riff_chunks.specs.Walk.{riff_sought, begun, turned, turns_by}
use Rattle.wav.specs.declared.Found.{Found}
use Rattle.wav.specs.declared.Found.TheVariants as found
use Rattle.wav_format.specs.Format.{number}
use Rattle.wav_format.specs.Tags.{wrapped_tag}
use Rattle.wav.specs.Wave.{riff_size, is_wave, found_of}
use Rattle.wav_turns.specs.declared.Started.{Started}

-- The refusal is 9 by the first 12 bytes, and 10 if the RIFF runs past the file's length.
abbrev pub started_of : List ℕ → ℕ → Started
started_of head length =
    record {
      refusal = first_of (9 unless is_wave head ∷ 10 unless leb (8 + riff_size head) length ∷ []);
      end = 8 + riff_size head;
    }

-- The chunk with these first 8 bytes, when `left` bytes are left before the end.
abbrev pub chunk_by : ℕ → ℕ → List ℕ → Chunk
chunk_by end left head = record { id = number 4 head 0; body = end - left + 8; size = number 4 head 4 }

-- A walk that has fewer than 8 bytes left is over.
abbrev pub goes_on : Walking → ℕ → Bool
goes_on w end = leb 8 w.left && leb w.left end

abbrev pub turned_by : Walking → ℕ → List ℕ → Walking
turned_by w end head = cond (goes_on w end) (turned riff_sought w (chunk_by end w.left head)) w

abbrev pub finished_of : Walked → List ℕ → Found
finished_of w f = found_of true (not w.overruns) (wrapped_tag f w.format.size) f w

-- ---- a whole file step by step: each step is lent the 8 bytes at its place
abbrev pub turns_of : List ℕ → ℕ → ℕ → Walking → Walking
turns_of b end = turns_by (λ (w : Walking). turned_by w end (take 8 (drop (end - w.left) b)))

abbrev pub by_turns : ℕ → ℕ → List ℕ → Found
by_turns zero end b =
    let w = (turns_of b end end (begun end)).seen in
    finished_of w (take 40 (take w.format.size (drop w.format.body b)))
by_turns (suc k) end b = found.Refused (suc k)

-- The answer, from what is lent step by step.
abbrev pub found_by_turns : List ℕ → ℕ → Found
found_by_turns b length = by_turns (started_of (take 12 b) length).refusal (started_of (take 12 b) length).end b
