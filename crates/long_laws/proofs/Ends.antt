-- W10f. Ends of ranges and orders of refusals, by computing on small headers: RF64 and BW64 of 16 bits, one channel, at
-- 8000 Hz, with `ds64`, `fmt ` and `data`, 80 bytes. Assumes nothing.
use mathlib.Core.Path.{◌≡◌, refl}
use mathlib.Core.List.{List, [], ◌∷◌, ◌++◌}
use Prim.Native.Nat.{ℕ, ◌+◌, ◌-◌, ◌^◌}
use lib.ListN.{take}
use Rattle.word_bytes.specs.Bytes.{low_bytes, bytes_value}
use Rattle.sample_kind.specs.declared.SampleKind.TheVariants.{Pcm16}
use Rattle.riff_chunks.specs.Chunks.{chunks_from, overrun, first}
use Rattle.riff_chunks.specs.Walk.{up_to}
use Rattle.wav_format.specs.Format.{format_ok}
use Rattle.wav.specs.declared.Found.{Found}
use Rattle.wav.specs.declared.Found.TheVariants as found
use Rattle.true_sizes.specs.Sizes.{entries_from, size_in, all_small}
use Rattle.long_wav.specs.Reading.{missing, needs_of, header_in}

-- The `fmt ` and the head of the `data`.
abbrev rest : ℕ → List ℕ
rest field =
    102 ∷ 109 ∷ 116 ∷ 32 ∷ 16 ∷ 0 ∷ 0 ∷ 0 ∷ 1 ∷ 0 ∷ 1 ∷ 0 ∷ 64 ∷ 31 ∷ 0 ∷ 0 ∷ 128 ∷ 62 ∷ 0 ∷ 0 ∷ 2 ∷ 0 ∷ 16 ∷ 0
    ∷ 100 ∷ 97 ∷ 116 ∷ 97 ∷ low_bytes 4 field

-- The letters, the size of `ds64`, the true sizes of the RIFF and of `data`, and the 32-bit size of `data`.
abbrev header : List ℕ → ℕ → ℕ → ℕ → ℕ → List ℕ
header letters ds riff samples field =
    letters ++ (low_bytes 4 (2 ^ 32 - 1) ++ (87 ∷ 65 ∷ 86 ∷ 69 ∷ 100 ∷ 115 ∷ 54 ∷ 52 ∷ (low_bytes 4 ds
    ++ (low_bytes 8 riff ++ (low_bytes 8 samples ++ (low_bytes 8 0 ++ (low_bytes 4 0 ++ rest field)))))))

abbrev rf64 : List ℕ
rf64 = 82 ∷ 70 ∷ 54 ∷ 52 ∷ []

abbrev bw64 : List ℕ
bw64 = 66 ∷ 87 ∷ 54 ∷ 52 ∷ []

abbrev full : ℕ
full = 2 ^ 32 - 1

-- Two samples, behind 80 bytes.
abbrev two : Found
two = found.Wave (record { kind = Pcm16; channels = 1; rate = 8000; start = 80; length = 4 })

pub both-identifiers : (header_in (header rf64 28 76 4 full) 84 ≡ two) × (header_in (header bw64 28 76 4 full) 84 ≡ two)
unfolding low_bytes bytes_value chunks_from overrun first up_to format_ok entries_from size_in all_small missing
    needs_of
both-identifiers = (refl, refl)

-- A 32-bit size other than FFFFFFFF counts, whatever `ds64` says.
pub own-size : header_in (header rf64 28 76 999 4) 84 ≡ two
unfolding low_bytes bytes_value chunks_from overrun first up_to format_ok entries_from size_in all_small missing
    needs_of
own-size = refl

-- The largest size, and one byte more: 19 comes before 10.
pub largest : header_in (header rf64 28 (2 ^ 40 + 72) (2 ^ 40) full) (2 ^ 40 + 80)
    ≡ found.Wave (record { kind = Pcm16; channels = 1; rate = 8000; start = 80; length = 2 ^ 40 })
unfolding low_bytes bytes_value chunks_from overrun first up_to format_ok entries_from size_in all_small missing
    needs_of
largest = refl

pub above : header_in (header rf64 28 (2 ^ 40 + 73) (2 ^ 40 + 1) full) 84 ≡ found.Refused 19
unfolding low_bytes bytes_value chunks_from overrun first up_to format_ok entries_from size_in all_small missing
    needs_of
above = refl

-- A `ds64` of 27 bytes counts as missing, and 18 comes before 19. Other letters give 9, before 18, and so does a RIFF
-- of 3 bytes.
pub short-ds64 : header_in (header rf64 27 76 (2 ^ 41) full) 84 ≡ found.Refused 18
unfolding low_bytes bytes_value chunks_from overrun first up_to format_ok entries_from size_in all_small missing
    needs_of
short-ds64 = refl

pub other-letters : header_in (header (82 ∷ 70 ∷ 54 ∷ 53 ∷ []) 27 76 4 full) 84 ≡ found.Refused 9
unfolding low_bytes bytes_value chunks_from overrun first up_to format_ok entries_from size_in all_small missing
    needs_of
other-letters = refl

pub small-riff : header_in (header rf64 28 3 (2 ^ 41) full) 84 ≡ found.Refused 9
unfolding low_bytes bytes_value chunks_from overrun first up_to format_ok entries_from size_in all_small missing
    needs_of
small-riff = refl

-- The RIFF ends where the file does, and one byte past it.
pub past-the-file : header_in (header rf64 28 77 4 full) 84 ≡ found.Refused 10
unfolding low_bytes bytes_value chunks_from overrun first up_to format_ok entries_from size_in all_small missing
    needs_of
past-the-file = refl

-- One byte of a head is missing, and how many are needed; then the same with the letters alone.
pub one-missing : (header_in (take 79 (header rf64 28 76 4 full)) 84
    ≡ found.Refused 2) × (needs_of (take 79 (header rf64 28 76 4 full)) 84 ≡ 80)
unfolding low_bytes bytes_value chunks_from overrun first up_to format_ok entries_from size_in all_small missing
    needs_of
one-missing = (refl, refl)

pub steps-asked : (needs_of [] 84 ≡ 12) × ((needs_of (take 12 (header rf64 28 76 4 full)) 84 ≡ 20)
    × ((needs_of (take 20 (header rf64 28 76 4 full)) 84 ≡ 48)
    × (needs_of (take 48 (header rf64 28 76 4 full)) 84 ≡ 56)))
unfolding low_bytes bytes_value chunks_from overrun first up_to format_ok entries_from size_in all_small missing
    needs_of
steps-asked = (refl, (refl, (refl, refl)))

-- A file of fewer than 12 bytes gives 9 by its length alone; more bytes than the file has give 1.
pub too_short : (header_in [] 11 ≡ found.Refused 9) × (header_in (header rf64 28 76 4 full) 79 ≡ found.Refused 1)
unfolding low_bytes bytes_value chunks_from overrun first up_to format_ok entries_from size_in all_small missing
    needs_of
too_short = (refl, refl)
