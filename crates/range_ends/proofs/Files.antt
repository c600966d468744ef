-- W1. RIFF WAVE files: the ends of the walk over their chunks, and the order of 9 to 13. By computing. Assumes nothing.
use mathlib.Core.Path.{◌≡◌, refl}
use mathlib.Core.List.{[], ◌∷◌, ◌++◌, map}
use Prim.Native.Nat.{ℕ, ◌-◌, ◌^◌}
use lib.ListN.{take, replicate}
use Rattle.word_bytes.specs.Bytes.{low_bytes}
use Rattle.range_ends.specs.Files.{riff_letters, wave_letters, fmt_letters, data_letters, note_letters}
use Rattle.range_ends.specs.Files.{chunk, plain, samples, file, whole, of_kind, refused}

-- The order of 9 to 13. Each file has one fault fewer than the one above it: its letters, a chunk past the end, no `fmt
-- `, no `data`, a tag that is not listed.
pub order : refused (wave_letters ++ (low_bytes 4 12 ++ (wave_letters ++ chunk note_letters 1 [])))
    ∷ refused (whole (chunk note_letters 1 []))
    ∷ refused (whole (chunk note_letters 0 []))
    ∷ refused (whole (chunk fmt_letters 0 []))
    ∷ refused (of_kind 2 1 2 16 4)
    ∷ refused (of_kind 1 1 2 16 4)
    ∷ []
    ≡ 9 ∷ 10 ∷ 11 ∷ 12 ∷ 13 ∷ 0 ∷ []
unfolding refused low_bytes
order = refl

-- One file of 48 bytes, by the RIFF size that it states, which ends the walk. Below 4 it gives 9. From 4 on fewer than
-- 8 bytes are left and ignored, so there is no `fmt `.
pub small-sizes : map (λ (n : ℕ). refused (file n (plain ++ samples 4))) (0 ∷ 3 ∷ 4 ∷ 5 ∷ 10 ∷ 11 ∷ [])
    ≡ 9 ∷ 9 ∷ 11 ∷ 11 ∷ 11 ∷ 11 ∷ []
unfolding refused low_bytes
small-sizes = refl

-- A `fmt ` that runs past the end; the `fmt ` alone, with up to 7 bytes left over; a `data` that runs past the end; the
-- right size; one byte more than the file has.
pub sizes : map (λ (n : ℕ). refused (file n (plain ++ samples 4)))
    (12 ∷ 27 ∷ 28 ∷ 35 ∷ 36 ∷ 39 ∷ 40 ∷ 41 ∷ (2 ^ 32 - 1) ∷ [])
    ≡ 10 ∷ 10 ∷ 12 ∷ 12 ∷ 10 ∷ 10 ∷ 0 ∷ 10 ∷ 10 ∷ []
unfolding refused low_bytes
sizes = refl

-- The test for 9: at least twelve bytes, `RIFF` and `WAVE`.
pub heads : map (λ (n : ℕ). refused (take n (file 4 []))) (0 ∷ 11 ∷ 12 ∷ []) ≡ 9 ∷ 9 ∷ 11 ∷ []
unfolding refused low_bytes
heads = refl

pub letters : refused (wave_letters ++ (low_bytes 4 4 ++ wave_letters))
    ∷ refused (riff_letters ++ (low_bytes 4 4 ++ riff_letters)) ∷ []
    ≡ 9 ∷ 9 ∷ []
unfolding refused low_bytes
letters = refl

-- The test for 10: a chunk whose size is one byte more than is left, and one whose size is what is left; a `data`, and
-- another.
pub overruns : refused (whole (plain ++ chunk data_letters 6 (replicate 5 0)))
    ∷ refused (whole (plain ++ chunk data_letters 4 (replicate 4 0)))
    ∷ refused (whole (plain ++ chunk note_letters 2 (0 ∷ [])))
    ∷ refused (whole (plain ++ chunk note_letters 1 (0 ∷ []))) ∷ []
    ≡ 10 ∷ 0 ∷ 10 ∷ 12 ∷ []
unfolding refused low_bytes
overruns = refl

-- An unknown chunk is skipped together with its pad byte; that of the last chunk may be missing, as above. 7 bytes left
-- over are ignored, 8 are a chunk.
pub skipped : refused (whole (chunk note_letters 1 (0 ∷ 0 ∷ []) ++ (plain ++ samples 4)))
    ∷ refused (whole (plain ++ (chunk note_letters 2 (0 ∷ 0 ∷ []) ++ samples 4)))
    ∷ refused (whole (plain ++ (chunk note_letters 1 (0 ∷ []) ++ samples 4))) ∷ []
    ≡ 0 ∷ 0 ∷ 12 ∷ []
unfolding refused low_bytes
skipped = refl

pub left_over : map (λ (n : ℕ). refused (whole (plain ++ replicate n 1))) (0 ∷ 7 ∷ 8 ∷ []) ≡ 12 ∷ 12 ∷ 10 ∷ []
unfolding refused low_bytes
left_over = refl

-- The tests for 11 and 12: a `fmt ` after `data` does not count, and the walk ends with the first `data`; the first
-- `fmt ` counts.
pub firsts : refused (whole (samples 4 ++ plain)) ∷ refused (whole (samples 4)) ∷ refused (whole plain)
    ∷ refused (whole (plain ++ (samples 4 ++ chunk note_letters 9 [])))
    ∷ refused (whole (plain ++ (chunk fmt_letters 0 [] ++ samples 4)))
    ∷ refused (whole (chunk fmt_letters 0 [] ++ (plain ++ samples 4))) ∷ []
    ≡ 11 ∷ 11 ∷ 12 ∷ 0 ∷ 0 ∷ 13 ∷ []
unfolding refused low_bytes
firsts = refl
