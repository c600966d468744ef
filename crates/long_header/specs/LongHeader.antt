-- W10. The bytes before the samples of a WAV file, for up to 2^40 bytes of samples. If the file fits RIFF they are
-- those of Wish 2. Otherwise they are those of RF64 (EBU Tech 3306) or BW64 (ITU-R BS.2088): the 32-bit numbers of the
-- RIFF, of `fact` and of `data` are FFFFFFFF, and the true ones stand in `ds64`, which comes first and has no table.
-- Definitions only.
use Rattle.std.specs.Prelude.{ℕ, ◌+◌, ◌-◌, ◌/◌, ◌^◌, cond, List, [], ◌∷◌, ◌++◌}
use Rattle.word_bytes.specs.Bytes.{low_bytes}
use Rattle.sample_kind.specs.declared.SampleKind.{SampleKind}
use Rattle.sample_kind.specs.declared.SampleKind.TheVariants.{Pcm16, Pcm24, Float32}
use Rattle.wav_header.specs.Header.{header_length, size_of, pad_of, wave_name, fmt_name, fact_name}
use Rattle.wav_header.specs.Header.{data_name}
use Rattle.wav_header.specs.Header.{chunk_of, format_of, header_of}
use Rattle.wav_header.specs.Refusals.{fits_riff}
use Rattle.long_header.specs.declared.Form.{Form}
use Rattle.long_header.specs.declared.Form.TheVariants.{Rf64, Bw64}

-- The names `RF64`, `BW64` and `ds64`, letter by letter.
abbrev pub form_name : Form → List ℕ
form_name Rf64 = 82 ∷ 70 ∷ 54 ∷ 52 ∷ []
form_name Bw64 = 66 ∷ 87 ∷ 54 ∷ 52 ∷ []

abbrev pub ds64_name : List ℕ
ds64_name = 100 ∷ 115 ∷ 54 ∷ 52 ∷ []

-- The value of a 32-bit size whose true value stands in `ds64`.
abbrev pub full : ℕ
full = 2 ^ 32 - 1

-- ---- how long a file is
-- A `ds64` has 8 bytes before its body and 28 in it.
abbrev pub long_header_length : SampleKind → ℕ
long_header_length kind = 36 + header_length kind

abbrev pub header_length_for : SampleKind → ℕ → ℕ
header_length_for kind count = cond (fits_riff kind count) (header_length kind) (long_header_length kind)

abbrev pub file_length_for : SampleKind → ℕ → ℕ
file_length_for kind count = header_length_for kind count + size_of kind count + pad_of kind count

-- ---- the header past RIFF
-- The body of `ds64`: the RIFF's size from place 8 on, the bytes of the samples, the frames, and a table of no entries.
abbrev pub ds64_of : ℕ → ℕ → ℕ → List ℕ
ds64_of riff size frames = low_bytes 8 riff ++ low_bytes 8 size ++ low_bytes 8 frames ++ low_bytes 4 0

abbrev pub long_fact : SampleKind → List ℕ
long_fact Pcm16 = []
long_fact Pcm24 = []
long_fact Float32 = chunk_of fact_name (low_bytes 4 full)

-- The first 48 bytes: the letters and the whole `ds64`.
unfoldable pub opening_of : Form → ℕ → ℕ → ℕ → List ℕ
opening_of form riff size frames =
    form_name form ++ low_bytes 4 full ++ wave_name ++ chunk_of ds64_name (ds64_of riff size frames)

unfoldable pub long_header_of : Form → SampleKind → ℕ → ℕ → ℕ → List ℕ
long_header_of form kind channels rate count =
    opening_of form (long_header_length kind + size_of kind count + pad_of kind count - 8) (size_of kind count)
    (count / channels)
    ++ chunk_of fmt_name (format_of kind channels rate) ++ long_fact kind ++ data_name ++ low_bytes 4 full

-- W10e. A file that fits RIFF has the header of Wish 2.
abbrev pub header_for : Form → SampleKind → ℕ → ℕ → ℕ → List ℕ
header_for form kind channels rate count =
    cond (fits_riff kind count) (header_of kind channels rate count) (long_header_of form kind channels rate count)
