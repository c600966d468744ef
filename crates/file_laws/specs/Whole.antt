-- A whole file in any layout, read step by step: each step is lent the opening and the 8 bytes at its place, and at the
-- end the first bytes of the chunk that describes the samples and of the one that holds them. Definitions only.
use Rattle.std.specs.Prelude.{ℕ, zero, suc, ◌-◌, min, cond, List, length, take, drop}
use Rattle.riff_chunks.specs.declared.Spot.{Spot}
use Rattle.riff_chunks.specs.declared.Walking.{Walking}
use Rattle.riff_chunks.specs.Walk.{begun, turns_by}
use Rattle.wav.specs.declared.Found.{Found}
use Rattle.wav.specs.declared.Found.TheVariants as found
use Rattle.long_wav.specs.Reading.{header_wrapped}
use Rattle.aiff.specs.Aiff.{found_in}
use Rattle.file_layout.specs.declared.Layout.{Layout}
use Rattle.file_layout.specs.Layouts.{is_aiff, format_bytes, samples_bytes}
use Rattle.file_turns.specs.Turns.{begun_in, turned_in, finished_in, as_wave}

abbrev pub turns_of : Layout → List ℕ → List ℕ → ℕ → ℕ → Walking → Walking
turns_of layout opening b end =
    turns_by (λ (w : Walking). turned_in layout opening w end (take 8 (drop (end - w.left) b)))

-- The first `most` bytes of a body, or all if it has fewer.
abbrev pub head_in : ℕ → List ℕ → Spot → List ℕ
head_in most b s = take (min s.size most) (drop s.body b)

abbrev pub by_turns : ℕ → Layout → List ℕ → ℕ → List ℕ → Found
by_turns zero layout opening end b =
    let w = (turns_of layout opening b end end (begun end)).seen in
    finished_in layout w end (head_in (format_bytes layout) b w.format) (head_in (samples_bytes layout) b w.samples)
by_turns (suc k) layout opening end b = found.Refused (suc k)

abbrev pub found_by_turns : Layout → List ℕ → List ℕ → ℕ → Found
found_by_turns layout opening b size =
    by_turns (begun_in layout opening size).refusal layout opening (begun_in layout opening size).end b

-- The answer of the whole file at once: that of Wish 12, or that of Wish 10, which for a RIFF is that of Wish 1.
abbrev pub found_at_once : Layout → List ℕ → Found
found_at_once layout b = cond (is_aiff layout) (as_wave (found_in b)) (header_wrapped b (length b))
