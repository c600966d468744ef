-- W12. An AIFF file read step by step: what its beginning shows, one more chunk by its first 8 bytes, and the answer
-- from the walk and the first bytes of `COMM` and `SSND`. Definitions only.
use Rattle.std.specs.Prelude.{ℕ, zero, suc, ◌+◌, ◌-◌, Bool, true, cond, ◌&&◌, List, [], ◌∷◌, leb, take, drop}
use Rattle.refusal_order.specs.Order.{◌unless◌, first_of}
use Rattle.riff_chunks.specs.declared.Chunk.{Chunk}
use Rattle.riff_chunks.specs.declared.Walked.{Walked}
use Rattle.riff_chunks.specs.declared.Walking.{Walking}
use Rattle.riff_chunks.specs.Walk.{begun, turned, turns_by}
use Rattle.form_chunks.specs.Form.{form_chunk, form_sought}
use Rattle.aiff.specs.declared.Found.{Found}
use Rattle.aiff.specs.declared.Found.TheVariants as found
use Rattle.aiff.specs.Aiff.{form_size, head_of, is_aiff, found_of}
use Rattle.aiff_turns.specs.declared.Started.{Started}

-- The refusal is 20 by the first 12 bytes, and 10 if the FORM runs past the file's length.
abbrev pub started_of : List ℕ → ℕ → Started
started_of head length =
    record {
      refusal = first_of (20 unless is_aiff head ∷ 10 unless leb (8 + form_size head) length ∷ []);
      end = 8 + form_size head;
    }

-- The chunk with these first 8 bytes, when `left` bytes are left before the end.
abbrev pub chunk_by : ℕ → ℕ → List ℕ → Chunk
chunk_by end left head =
    record { id = (form_chunk head 0).id; body = end - left + 8; size = (form_chunk head 0).size }

-- A walk that has fewer than 8 bytes left is over.
abbrev pub goes_on : Walking → ℕ → Bool
goes_on w end = leb 8 w.left && leb w.left end

abbrev pub turned_by : Walking → ℕ → List ℕ → Walking
turned_by w end head = cond (goes_on w end) (turned form_sought w (chunk_by end w.left head)) w

abbrev pub finished_of : Walked → ℕ → List ℕ → List ℕ → Found
finished_of w end c s = found_of true true end c s w

-- ---- a whole file step by step: each step is lent the 8 bytes at its place
abbrev pub turns_of : List ℕ → ℕ → ℕ → Walking → Walking
turns_of b end = turns_by (λ (w : Walking). turned_by w end (take 8 (drop (end - w.left) b)))

abbrev pub by_turns : ℕ → ℕ → List ℕ → Found
by_turns zero end b =
    let w = (turns_of b end end (begun end)).seen in
    finished_of w end (head_of 18 b w.format.body w.format.size)
    (head_of 8 b w.samples.body w.samples.size)
by_turns (suc k) end b = found.Refused (suc k)

-- The answer, from what is lent step by step.
abbrev pub found_by_turns : List ℕ → ℕ → Found
found_by_turns b length = by_turns (started_of (take 12 b) length).refusal (started_of (take 12 b) length).end b
