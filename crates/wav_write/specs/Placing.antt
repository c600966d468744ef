-- W2. What the functions that write the parts of a file require and promise inside the crate. Definitions only.
use Rattle.std.specs.Prelude.{ℕ, ◌+◌, ◌≤◌, ◌≡◌, ◌&&◌, List, [], ◌∷◌, ◌++◌, leb, length, take, drop}
use Rattle.refusal_order.specs.Order.{◌unless◌, first_of}
use Rattle.word_bytes.specs.Bytes.{low_bytes}
use Rattle.sample_kind.specs.declared.SampleKind.{SampleKind}
use Rattle.wav_header.specs.Header.{size_of, pad_of}
use Rattle.wav_settings.specs.Settings.{rate_ok, one_or_two, whole_frames}
use Rattle.long_header.specs.declared.Form.{Form}
use Rattle.long_header.specs.LongHeader.{header_length_for, file_length_for, header_for}
use Rattle.long_header.specs.Refusals.{size_ok, file_verdict_for}

-- The refusals that are known before any sample is read.
abbrev pub early_verdict : SampleKind → ℕ → ℕ → ℕ → ℕ → ℕ
early_verdict kind channels rate count room =
    first_of
    (1 unless (rate_ok rate && whole_frames channels count)
    ∷ 19 unless size_ok kind count
    ∷ 13 unless one_or_two channels
    ∷ 14 unless leb (file_length_for kind count) room
    ∷ [])

-- A buffer with room for a file that none of 1, 19 and 13 refuses.
pub record Room (kind : SampleKind) (channels rate count room : ℕ) : Type 0 where
  pub planned : file_verdict_for kind channels rate count ≡ 0
  pub holds : file_length_for kind count ≤ room

-- The number n is the length of the file, and the buffer is at least as long.
pub record Held (file n : ℕ) (buffer : List ℕ) : Type 0 where
  pub exact : n ≡ file
  pub long : file ≤ length buffer

-- The header written over the beginning of the buffer.
abbrev pub headed : Form → SampleKind → ℕ → ℕ → ℕ → List ℕ → List ℕ
headed form kind channels rate count old =
    header_for form kind channels rate count ++ drop (header_length_for kind count) old

-- The pad byte written behind the samples, if there is one.
abbrev pub padded : SampleKind → ℕ → List ℕ → List ℕ
padded kind count old =
    take (header_length_for kind count + size_of kind count) old
    ++ (low_bytes (pad_of kind count) 0 ++ drop (file_length_for kind count) old)
