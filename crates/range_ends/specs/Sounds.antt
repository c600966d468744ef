-- W12. Small AIFF files, byte by byte. Definitions only.
use Rattle.std.specs.Prelude.{ℕ, ◌+◌, List, [], ◌∷◌, ◌++◌, reverse, length, replicate}
use Rattle.word_bytes.specs.Bytes.{low_bytes, bytes_value}
use Rattle.extended_rate.specs.Rate.{rate_by}
use Rattle.riff_chunks.specs.Chunks.{chunks_from, overrun, first}
use Rattle.riff_chunks.specs.Walk.{up_to}
use Rattle.aiff.specs.Aiff.{is_aiff, found_in}
use Rattle.fugnadri_aiff.specs.Doors.{number_of, sound_of}

-- The letters `FORM`, `AIFF`, `AIFC`, `COMM`, `SSND`, and an unknown chunk, `NAME`.
abbrev pub form_letters : List ℕ
form_letters = 70 ∷ 79 ∷ 82 ∷ 77 ∷ []

abbrev pub aiff_letters : List ℕ
aiff_letters = 65 ∷ 73 ∷ 70 ∷ 70 ∷ []

abbrev pub aifc_letters : List ℕ
aifc_letters = 65 ∷ 73 ∷ 70 ∷ 67 ∷ []

abbrev pub comm_letters : List ℕ
comm_letters = 67 ∷ 79 ∷ 77 ∷ 77 ∷ []

abbrev pub ssnd_letters : List ℕ
ssnd_letters = 83 ∷ 83 ∷ 78 ∷ 68 ∷ []

abbrev pub name_letters : List ℕ
name_letters = 78 ∷ 65 ∷ 77 ∷ 69 ∷ []

abbrev pub high_bytes : ℕ → ℕ → List ℕ
high_bytes k n = reverse (low_bytes k n)

-- A chunk with a stated size, which its body may not have.
abbrev pub part : List ℕ → ℕ → List ℕ → List ℕ
part id size body = id ++ (high_bytes 4 size ++ body)

-- The 18 bytes of a `COMM` with the rate by its sign and exponent and its digits; one at 8000 Hz; and one for a channel
-- of 16 bits.
abbrev pub fields_at : ℕ → ℕ → ℕ → ℕ → ℕ → List ℕ
fields_at channels frames bits field digits =
    high_bytes 2 channels ++ (high_bytes 4 frames ++ (high_bytes 2 bits ++ (high_bytes 2 field ++ high_bytes 8 digits)))

abbrev pub fields : ℕ → ℕ → ℕ → List ℕ
fields channels frames bits = fields_at channels frames bits 0x400b 0xfa00_0000_0000_0000

abbrev pub told : ℕ → List ℕ
told frames = part comm_letters 18 (fields 1 frames 16)

-- An `SSND` with an offset and n bytes after its first 8, all of which are there.
abbrev pub held : ℕ → ℕ → List ℕ
held offset n = part ssnd_letters (8 + n) (high_bytes 4 offset ++ (high_bytes 4 0 ++ replicate n 0))

-- A file with a stated FORM size, and one whose FORM size is right.
abbrev pub sized : ℕ → List ℕ → List ℕ
sized size parts = form_letters ++ (high_bytes 4 size ++ (aiff_letters ++ parts))

abbrev pub sound : List ℕ → List ℕ
sound parts = sized (4 + length parts) parts

-- The number by which a file is refused, 0 for none, and its rate.
unfoldable pub sound_refused : List ℕ → ℕ
unfolding is_aiff chunks_from up_to overrun first bytes_value rate_by
sound_refused b = number_of (found_in b)

unfoldable pub sound_rate : List ℕ → ℕ
unfolding is_aiff chunks_from up_to overrun first bytes_value rate_by
sound_rate b = (sound_of (found_in b)).rate
