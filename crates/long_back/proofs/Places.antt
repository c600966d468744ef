-- W10d. The chunks of a written RF64 or BW64 are at their places, whatever bytes follow: `ds64` at 12, `fmt ` at 48,
-- for float `fact` at 74, then `data`. Kind by kind, by computing. Assumes nothing.
use mathlib.Core.Path.{◌≡◌, refl}
use mathlib.Core.Bool.{true}
use mathlib.Core.List.{List, ◌++◌}
use Prim.Native.Nat.{ℕ, ◌+◌, ◌-◌, ◌^◌, ◌<◌}
use lib.ListN.{drop}
use Rattle.word_bytes.specs.Bytes.{low_bytes, bytes_value}
use Rattle.word_bytes.proofs.ReadBack.{bytes_back}
use Rattle.sample_kind.specs.declared.SampleKind.{SampleKind}
use Rattle.sample_kind.specs.declared.SampleKind.TheVariants.{Pcm16, Pcm24, Float32}
use Rattle.riff_chunks.specs.declared.Chunk.{Chunk}
use Rattle.riff_chunks.specs.Walk.{fmt_id, data_id}
use Rattle.wav_format.specs.Format.{number}
use Rattle.wav.specs.Wave.{riff_size}
use Rattle.true_sizes.specs.Sizes.{is_long, full, ds64_id, ds64_size, riff_size64, data_size64, entry_count}
use Rattle.wav_opening.specs.Opening.{has_letters}
use Rattle.long_wav.specs.Reading.{chunk_in}
use Rattle.wav_header.specs.Header.{size_of, pad_of}
use Rattle.wav_header.specs.Fields.{format_size, riff_for, format_start, format_end, start_for, fact_for, data_for}
use Rattle.wav_back.proofs.Places.{middle}
use Rattle.long_header.specs.declared.Form.{Form}
use Rattle.long_header.specs.declared.Form.TheVariants.{Rf64, Bw64}
use Rattle.long_header.specs.LongHeader.{long_header_length, opening_of, long_header_of}

chunk-is : (i j body s t : ℕ) → i ≡ j → s ≡ t
    → ◌≡◌ {A = Chunk} (record { id = i; body = body; size = s }) (record { id = j; body = body; size = t })
chunk-is i j body s t p q = rw (p, q)

abbrev pub ds64_chunk : Chunk
ds64_chunk = record { id = ds64_id; body = 20; size = 28 }

abbrev pub fmt_chunk : SampleKind → Chunk
fmt_chunk kind = record { id = fmt_id; body = 56; size = format_size kind }

abbrev pub fact_chunk : Chunk
fact_chunk = record { id = 0x7463_6166; body = 82; size = 4 }

abbrev pub data_chunk : SampleKind → ℕ → Chunk
data_chunk kind count = record { id = data_id; body = long_header_length kind; size = size_of kind count }

module _ (channels rate count : ℕ) (rest : List ℕ) where
  abbrev pub bytes : Form → SampleKind → List ℕ
  bytes form kind = long_header_of form kind channels rate count ++ rest

  -- The true size of the RIFF.
  abbrev pub riff_of : SampleKind → ℕ
  riff_of kind = long_header_length kind + size_of kind count + pad_of kind count - 8

  pub is-long : (form : Form) (kind : SampleKind) → is_long (bytes form kind) ≡ true
  unfolding low_bytes bytes_value opening_of long_header_of
  is-long Rf64 Pcm16 = refl
  is-long Rf64 Pcm24 = refl
  is-long Rf64 Float32 = refl
  is-long Bw64 Pcm16 = refl
  is-long Bw64 Pcm24 = refl
  is-long Bw64 Float32 = refl

  pub letters : (form : Form) (kind : SampleKind) → has_letters (bytes form kind) ≡ true
  unfolding low_bytes bytes_value opening_of long_header_of
  letters Rf64 Pcm16 = refl
  letters Rf64 Pcm24 = refl
  letters Rf64 Float32 = refl
  letters Bw64 Pcm16 = refl
  letters Bw64 Pcm24 = refl
  letters Bw64 Float32 = refl

  pub riff-full : (form : Form) (kind : SampleKind) → riff_size (bytes form kind) ≡ full
  unfolding low_bytes bytes_value opening_of long_header_of
  riff-full Rf64 Pcm16 = refl
  riff-full Rf64 Pcm24 = refl
  riff-full Rf64 Float32 = refl
  riff-full Bw64 Pcm16 = refl
  riff-full Bw64 Pcm24 = refl
  riff-full Bw64 Float32 = refl

  pub ds64-there : (form : Form) (kind : SampleKind) → number 4 (bytes form kind) 12 ≡ ds64_id
  unfolding low_bytes bytes_value opening_of long_header_of
  ds64-there Rf64 Pcm16 = refl
  ds64-there Rf64 Pcm24 = refl
  ds64-there Rf64 Float32 = refl
  ds64-there Bw64 Pcm16 = refl
  ds64-there Bw64 Pcm24 = refl
  ds64-there Bw64 Float32 = refl

  pub ds64-size : (form : Form) (kind : SampleKind) → ds64_size (bytes form kind) ≡ 28
  unfolding low_bytes bytes_value opening_of long_header_of
  ds64-size Rf64 Pcm16 = refl
  ds64-size Rf64 Pcm24 = refl
  ds64-size Rf64 Float32 = refl
  ds64-size Bw64 Pcm16 = refl
  ds64-size Bw64 Pcm24 = refl
  ds64-size Bw64 Float32 = refl

  pub no-entries : (form : Form) (kind : SampleKind) → entry_count (bytes form kind) ≡ 0
  unfolding low_bytes bytes_value opening_of long_header_of
  no-entries Rf64 Pcm16 = refl
  no-entries Rf64 Pcm24 = refl
  no-entries Rf64 Float32 = refl
  no-entries Bw64 Pcm16 = refl
  no-entries Bw64 Pcm24 = refl
  no-entries Bw64 Float32 = refl

  pub true-riff : (form : Form) (kind : SampleKind) → riff_of kind < 256 ^ 8
      → riff_size64 (bytes form kind) ≡ riff_of kind
  unfolding low_bytes opening_of long_header_of
  true-riff Rf64 Pcm16 h = bytes_back 8 (riff_of Pcm16) h
  true-riff Rf64 Pcm24 h = bytes_back 8 (riff_of Pcm24) h
  true-riff Rf64 Float32 h = bytes_back 8 (riff_of Float32) h
  true-riff Bw64 Pcm16 h = bytes_back 8 (riff_of Pcm16) h
  true-riff Bw64 Pcm24 h = bytes_back 8 (riff_of Pcm24) h
  true-riff Bw64 Float32 h = bytes_back 8 (riff_of Float32) h

  pub true-data : (form : Form) (kind : SampleKind) → size_of kind count < 256 ^ 8
      → data_size64 (bytes form kind) ≡ size_of kind count
  unfolding low_bytes opening_of long_header_of
  true-data Rf64 Pcm16 h = bytes_back 8 (size_of Pcm16 count) h
  true-data Rf64 Pcm24 h = bytes_back 8 (size_of Pcm24 count) h
  true-data Rf64 Float32 h = bytes_back 8 (size_of Float32 count) h
  true-data Bw64 Pcm16 h = bytes_back 8 (size_of Pcm16 count) h
  true-data Bw64 Pcm24 h = bytes_back 8 (size_of Pcm24 count) h
  true-data Bw64 Float32 h = bytes_back 8 (size_of Float32 count) h

  pub ds64-at : (form : Form) (kind : SampleKind) → chunk_in (bytes form kind) 12 ≡ ds64_chunk
  unfolding low_bytes bytes_value opening_of long_header_of
  ds64-at Rf64 Pcm16 = refl
  ds64-at Rf64 Pcm24 = refl
  ds64-at Rf64 Float32 = refl
  ds64-at Bw64 Pcm16 = refl
  ds64-at Bw64 Pcm24 = refl
  ds64-at Bw64 Float32 = refl

  pub fmt-at : (form : Form) (kind : SampleKind) → chunk_in (bytes form kind) 48 ≡ fmt_chunk kind
  unfolding low_bytes bytes_value opening_of long_header_of
  fmt-at Rf64 Pcm16 = refl
  fmt-at Rf64 Pcm24 = refl
  fmt-at Rf64 Float32 = refl
  fmt-at Bw64 Pcm16 = refl
  fmt-at Bw64 Pcm24 = refl
  fmt-at Bw64 Float32 = refl

  pub fact-at : (form : Form) → chunk_in (bytes form Float32) 74 ≡ fact_chunk
  unfolding low_bytes bytes_value opening_of long_header_of
  fact-at Rf64 = refl
  fact-at Bw64 = refl

  pub data-at : (form : Form) (kind : SampleKind) → size_of kind count < 256 ^ 8
      → chunk_in (bytes form kind) (long_header_length kind - 8) ≡ data_chunk kind count
  unfolding low_bytes bytes_value opening_of long_header_of
  data-at Rf64 Pcm16 h = chunk-is _ data_id 80 _ (size_of Pcm16 count) refl (bytes_back 8 (size_of Pcm16 count) h)
  data-at Rf64 Pcm24 h = chunk-is _ data_id 80 _ (size_of Pcm24 count) refl (bytes_back 8 (size_of Pcm24 count) h)
  data-at Rf64 Float32 h = chunk-is _ data_id 94 _ (size_of Float32 count) refl (bytes_back 8 (size_of Float32 count) h)
  data-at Bw64 Pcm16 h = chunk-is _ data_id 80 _ (size_of Pcm16 count) refl (bytes_back 8 (size_of Pcm16 count) h)
  data-at Bw64 Pcm24 h = chunk-is _ data_id 80 _ (size_of Pcm24 count) refl (bytes_back 8 (size_of Pcm24 count) h)
  data-at Bw64 Float32 h = chunk-is _ data_id 94 _ (size_of Float32 count) refl (bytes_back 8 (size_of Float32 count) h)

  -- The body of `fmt ` is that of Wish 2.
  pub body_same : (form : Form) (kind : SampleKind)
      → drop 56 (bytes form kind)
      ≡ drop 20 (start_for kind channels rate 0 ++ (middle kind full ++ (data_for full ++ rest)))
  unfolding low_bytes opening_of long_header_of riff_for format_start format_end fact_for data_for
  body_same Rf64 Pcm16 = refl
  body_same Rf64 Pcm24 = refl
  body_same Rf64 Float32 = refl
  body_same Bw64 Pcm16 = refl
  body_same Bw64 Pcm24 = refl
  body_same Bw64 Float32 = refl
