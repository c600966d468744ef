-- W2b. The chunks of a written file are at their places, whatever bytes follow: `fmt ` at 12, for float `fact` at 38,
-- then `data`. Kind by kind. Assumes nothing.
use mathlib.Core.Path.{◌≡◌, refl, ap, ◌∙◌}
use mathlib.Core.List.{List, [], ◌++◌}
use Prim.Native.Nat.{ℕ, ◌-◌, ◌/◌, ◌^◌, ◌<◌}
use Rattle.word_bytes.specs.Bytes.{low_bytes, bytes_value}
use Rattle.word_bytes.proofs.ReadBack.{bytes_back}
use Rattle.sample_kind.specs.declared.SampleKind.{SampleKind}
use Rattle.sample_kind.specs.declared.SampleKind.TheVariants.{Pcm16, Pcm24, Float32}
use Rattle.riff_chunks.specs.declared.Chunk.{Chunk}
use Rattle.riff_chunks.specs.Chunks.{chunk_at}
use Rattle.riff_chunks.specs.Walk.{fmt_id, data_id}
use Rattle.wav_header.specs.Header.{header_length, size_of, file_length, header_of}
use Rattle.wav_header.specs.Fields.{format_size, riff_for, format_start, format_end, start_for, fact_for, data_for}
use Rattle.wav_back.proofs.Fields.{fmt-id, fmt-size}

-- The bytes between the first 36 of a header and `data`.
abbrev pub middle : SampleKind → ℕ → List ℕ
middle Pcm16 frames = []
middle Pcm24 frames = []
middle Float32 frames = fact_for frames

pub header_is : (kind : SampleKind) (channels rate count : ℕ) (rest : List ℕ)
    → header_of kind channels rate count ++ rest
    ≡ start_for kind channels rate (file_length kind count - 8)
    ++ (middle kind (count / channels) ++ (data_for (size_of kind count) ++ rest))
unfolding low_bytes header_of riff_for format_start format_end fact_for data_for
header_is Pcm16 channels rate count rest = refl
header_is Pcm24 channels rate count rest = refl
header_is Float32 channels rate count rest = refl

abbrev pub fmt_chunk : SampleKind → Chunk
fmt_chunk kind = record { id = fmt_id; body = 20; size = format_size kind }

abbrev pub fact_chunk : Chunk
fact_chunk = record { id = 0x7463_6166; body = 46; size = 4 }

abbrev pub data_chunk : SampleKind → ℕ → Chunk
data_chunk kind count = record { id = data_id; body = header_length kind; size = size_of kind count }

chunk-is : (i j body s t : ℕ) → i ≡ j → s ≡ t
    → ◌≡◌ {A = Chunk} (record { id = i; body = body; size = s }) (record { id = j; body = body; size = t })
chunk-is i j body s t p q = rw (p, q)

module _ (channels rate count : ℕ) (rest : List ℕ) where
  abbrev pub bytes : SampleKind → List ℕ
  bytes kind = header_of kind channels rate count ++ rest

  pub data-at : (kind : SampleKind) → size_of kind count < 256 ^ 4
      → chunk_at bytes_value (bytes kind) (header_length kind - 8) ≡ data_chunk kind count
  unfolding low_bytes bytes_value header_of
  data-at Pcm16 h = chunk-is _ data_id 44 _ (size_of Pcm16 count) refl (bytes_back 4 (size_of Pcm16 count) h)
  data-at Pcm24 h = chunk-is _ data_id 44 _ (size_of Pcm24 count) refl (bytes_back 4 (size_of Pcm24 count) h)
  data-at Float32 h = chunk-is _ data_id 58 _ (size_of Float32 count) refl (bytes_back 4 (size_of Float32 count) h)

  pub fact-at : chunk_at bytes_value (bytes Float32) 38 ≡ fact_chunk
  unfolding low_bytes bytes_value header_of
  fact-at = refl

  pub fmt-at : (kind : SampleKind) → format_size kind < 256 ^ 4 → chunk_at bytes_value (bytes kind) 12 ≡ fmt_chunk kind
  fmt-at kind h =
      ap (λ (b : List ℕ). chunk_at bytes_value b 12) (header_is kind channels rate count rest)
      ∙ chunk-is _ fmt_id 20 _ (format_size kind) (fmt-id kind channels rate n tail)
      (fmt-size kind channels rate n tail h)
    where
      n : ℕ
      n = file_length kind count - 8

      tail : List ℕ
      tail = middle kind (count / channels) ++ (data_for (size_of kind count) ++ rest)
