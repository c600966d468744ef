-- W2. The bytes of a RIFF WAVE file before its samples, in the published layout: chunk by chunk, every number low byte
-- first. `count` is the number of samples over all channels. Definitions only.
use Rattle.std.specs.Prelude.{ℕ, ◌+◌, ◌-◌, ◌*◌, ◌/◌, ◌%◌, List, [], ◌∷◌, ◌++◌, length}
use Rattle.word_bytes.specs.Bytes.{low_bytes}
use Rattle.sample_kind.specs.declared.SampleKind.{SampleKind}
use Rattle.sample_kind.specs.declared.SampleKind.TheVariants.{Pcm16, Pcm24, Float32}
use Rattle.sample_kind.specs.Kinds.{width_of, frame_of}

-- ---- how long a file is
-- A PCM header has 12 bytes of RIFF, 24 of `fmt ` and 8 of `data`. A float header has 2 more in `fmt ` and 12 of
-- `fact`.
abbrev pub header_length : SampleKind → ℕ
header_length Pcm16 = 44
header_length Pcm24 = 44
header_length Float32 = 58

-- The number of bytes of the samples, and the pad byte if that number is odd.
abbrev pub size_of : SampleKind → ℕ → ℕ
size_of kind count = count * width_of kind

abbrev pub pad_of : SampleKind → ℕ → ℕ
pad_of kind count = size_of kind count % 2

abbrev pub file_length : SampleKind → ℕ → ℕ
file_length kind count = header_length kind + size_of kind count + pad_of kind count

-- ---- the chunks
-- The names `RIFF`, `WAVE`, `fmt `, `fact` and `data`, letter by letter.
abbrev pub riff_name : List ℕ
riff_name = 82 ∷ 73 ∷ 70 ∷ 70 ∷ []

abbrev pub wave_name : List ℕ
wave_name = 87 ∷ 65 ∷ 86 ∷ 69 ∷ []

abbrev pub fmt_name : List ℕ
fmt_name = 102 ∷ 109 ∷ 116 ∷ 32 ∷ []

abbrev pub fact_name : List ℕ
fact_name = 102 ∷ 97 ∷ 99 ∷ 116 ∷ []

abbrev pub data_name : List ℕ
data_name = 100 ∷ 97 ∷ 116 ∷ 97 ∷ []

-- A chunk is its name, the size of its body, and its body.
abbrev pub chunk_of : List ℕ → List ℕ → List ℕ
chunk_of name body = name ++ low_bytes 4 (length body) ++ body

-- The format tag is 1 for PCM and 3 for IEEE float.
abbrev pub tag_of : SampleKind → ℕ
tag_of Pcm16 = 1
tag_of Pcm24 = 1
tag_of Float32 = 3

-- Every kind but PCM has the size of an extension, which is 0, and a `fact` chunk with the number of frames.
abbrev pub extension_of : SampleKind → List ℕ
extension_of Pcm16 = []
extension_of Pcm24 = []
extension_of Float32 = low_bytes 2 0

abbrev pub fact_of : SampleKind → ℕ → ℕ → List ℕ
fact_of Pcm16 channels count = []
fact_of Pcm24 channels count = []
fact_of Float32 channels count = chunk_of fact_name (low_bytes 4 (count / channels))

-- The body of `fmt `: tag, channels, rate, bytes per second, bytes per frame, bits per sample.
abbrev pub format_of : SampleKind → ℕ → ℕ → List ℕ
format_of kind channels rate =
    low_bytes 2 (tag_of kind) ++ low_bytes 2 channels ++ low_bytes 4 rate ++ low_bytes 4 (rate * frame_of kind channels)
    ++ low_bytes 2 (frame_of kind channels) ++ low_bytes 2 (8 * width_of kind) ++ extension_of kind

-- The RIFF's size counts the bytes from place 8 to the end of the file, including the pad byte. That of `data` counts
-- only the bytes of the samples.
unfoldable pub header_of : SampleKind → ℕ → ℕ → ℕ → List ℕ
header_of kind channels rate count =
    riff_name ++ low_bytes 4 (file_length kind count - 8) ++ wave_name
    ++ chunk_of fmt_name (format_of kind channels rate) ++ fact_of kind channels count
    ++ data_name ++ low_bytes 4 (size_of kind count)
