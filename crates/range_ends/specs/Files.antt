-- W1. Small files, byte by byte. Definitions only.
use Rattle.std.specs.Prelude.{ℕ, ◌+◌, ◌*◌, List, [], ◌∷◌, ◌++◌, length, replicate}
use Rattle.word_bytes.specs.Bytes.{low_bytes, bytes_value}
use Rattle.riff_chunks.specs.Chunks.{chunks_from, overrun, first}
use Rattle.riff_chunks.specs.Walk.{up_to}
use Rattle.wav_format.specs.Format.{format_ok}
use Rattle.wav_format.specs.Tags.{wraps}
use Rattle.wav.specs.Wave.{is_wave, found_in, found_wrapped}
use Rattle.sample_kind.specs.Kinds.{code_of}
use Rattle.fugnadri_wav.specs.Exports.{number_of, wave_of}

-- The letters `RIFF`, `WAVE`, `fmt `, `data`, and an unknown chunk, `note`.
abbrev pub riff_letters : List ℕ
riff_letters = 82 ∷ 73 ∷ 70 ∷ 70 ∷ []

abbrev pub wave_letters : List ℕ
wave_letters = 87 ∷ 65 ∷ 86 ∷ 69 ∷ []

abbrev pub fmt_letters : List ℕ
fmt_letters = 102 ∷ 109 ∷ 116 ∷ 32 ∷ []

abbrev pub data_letters : List ℕ
data_letters = 100 ∷ 97 ∷ 116 ∷ 97 ∷ []

abbrev pub note_letters : List ℕ
note_letters = 110 ∷ 111 ∷ 116 ∷ 101 ∷ []

-- A chunk with a stated size, which its body may not have.
abbrev pub chunk : List ℕ → ℕ → List ℕ → List ℕ
chunk id size body = id ++ (low_bytes 4 size ++ body)

-- The 16 bytes that a `fmt ` begins with, at 8000 Hz; the byte rate is not tested.
abbrev pub format : ℕ → ℕ → ℕ → ℕ → List ℕ
format tag channels block bits =
    low_bytes 2 tag ++ (low_bytes 2 channels ++ (low_bytes 4 8000
    ++ (low_bytes 4 0 ++ (low_bytes 2 block ++ low_bytes 2 bits))))

-- A plain `fmt ` for one channel of 16 bits.
abbrev pub plain : List ℕ
plain = chunk fmt_letters 16 (format 1 1 2 16)

-- A `data` of n bytes, all of which are there.
abbrev pub samples : ℕ → List ℕ
samples n = chunk data_letters n (replicate n 0)

-- A file with a stated RIFF size, and one whose RIFF size is right.
abbrev pub file : ℕ → List ℕ → List ℕ
file size chunks = riff_letters ++ (low_bytes 4 size ++ (wave_letters ++ chunks))

abbrev pub whole : List ℕ → List ℕ
whole chunks = file (4 + length chunks) chunks

-- A file with a `fmt ` of a stated size and a `data` of n bytes.
abbrev pub formatted : ℕ → List ℕ → ℕ → List ℕ
formatted size body n = whole (chunk fmt_letters size body ++ samples n)

abbrev pub of_kind : ℕ → ℕ → ℕ → ℕ → ℕ → List ℕ
of_kind tag channels block bits n = formatted 16 (format tag channels block bits) n

-- One channel of samples of some bytes each, in a `fmt ` of WAVE_FORMAT_EXTENSIBLE with a stated size. After the first
-- 16 bytes come the extension's size, the valid bits, the speakers, the tag inside and its tail; then 12 bytes of
-- `data`.
abbrev pub wrapping : ℕ → ℕ → ℕ → ℕ → ℕ → List ℕ → List ℕ
wrapping size bytes extension valid inner tail =
    formatted size
    (format 65534 1 bytes (8 * bytes) ++ (low_bytes 2 extension ++ (low_bytes 2 valid
    ++ (low_bytes 4 4 ++ (low_bytes 2 inner ++ tail)))))
    12

-- The bytes of 0000-0010-8000-00AA00389B71 as they are stored.
abbrev pub standard : List ℕ
standard = 0 ∷ 0 ∷ 0 ∷ 0 ∷ 0x10 ∷ 0 ∷ 0x80 ∷ 0 ∷ 0 ∷ 0xaa ∷ 0 ∷ 0x38 ∷ 0x9b ∷ 0x71 ∷ []

-- The number by which a file is refused, 0 for none, and the code of its samples' kind.
unfoldable pub refused : List ℕ → ℕ
unfolding is_wave chunks_from up_to overrun first format_ok bytes_value
refused b = number_of (found_in b)

unfoldable pub coded : List ℕ → ℕ
unfolding is_wave chunks_from up_to overrun first format_ok bytes_value
coded b = code_of (wave_of (found_in b)).kind

-- The same for the reading that accepts wrapped kinds.
unfoldable pub refused_wrapped : List ℕ → ℕ
unfolding is_wave chunks_from up_to overrun first format_ok wraps bytes_value
refused_wrapped b = number_of (found_wrapped b)

unfoldable pub coded_wrapped : List ℕ → ℕ
unfolding is_wave chunks_from up_to overrun first format_ok wraps bytes_value
coded_wrapped b = code_of (wave_of (found_wrapped b)).kind
