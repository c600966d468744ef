-- W2. What the functions that write the fields of a header require and promise inside the crate. Definitions only.
use Rattle.std.specs.Prelude.{ℕ, ◌*◌, ◌^◌, ◌≤◌, ◌<◌, ◌≡◌, List, ◌++◌}
use Rattle.word_bytes.specs.Bytes.{low_bytes}
use Rattle.sample_kind.specs.declared.SampleKind.{SampleKind}
use Rattle.sample_kind.specs.declared.SampleKind.TheVariants.{Pcm16, Pcm24, Float32}
use Rattle.sample_kind.specs.Kinds.{width_of, frame_of}
use Rattle.wav_header.specs.Header.{header_length, riff_name, wave_name, fmt_name, fact_name, data_name, tag_of}

-- The block has the header's length, there is at least one channel, and the samples are few enough that no number
-- overflows a word.
pub record Room (kind : SampleKind) (channels count room : ℕ) : Type 0 where
  pub exact : room ≡ header_length kind
  pub some : 1 ≤ channels
  pub few : count < 2 ^ 32

-- The size of the body of `fmt `.
abbrev pub format_size : SampleKind → ℕ
format_size Pcm16 = 16
format_size Pcm24 = 16
format_size Float32 = 18

-- ---- the header in five parts
unfoldable pub riff_for : ℕ → List ℕ
riff_for size = riff_name ++ low_bytes 4 size ++ wave_name

unfoldable pub format_start : SampleKind → ℕ → ℕ → List ℕ
format_start kind channels rate =
    fmt_name ++ low_bytes 4 (format_size kind) ++ low_bytes 2 (tag_of kind) ++ low_bytes 2 channels ++ low_bytes 4 rate

unfoldable pub format_end : SampleKind → ℕ → ℕ → List ℕ
format_end kind channels rate =
    low_bytes 4 (rate * frame_of kind channels) ++ low_bytes 2 (frame_of kind channels)
    ++ low_bytes 2 (8 * width_of kind)

-- The first 36 bytes, which are laid out alike for all kinds.
abbrev pub start_for : SampleKind → ℕ → ℕ → ℕ → List ℕ
start_for kind channels rate size = riff_for size ++ format_start kind channels rate ++ format_end kind channels rate

unfoldable pub fact_for : ℕ → List ℕ
fact_for frames = low_bytes 2 0 ++ fact_name ++ low_bytes 4 4 ++ low_bytes 4 frames

unfoldable pub data_for : ℕ → List ℕ
data_for size = data_name ++ low_bytes 4 size
