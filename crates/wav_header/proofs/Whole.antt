-- W2. The written parts together are the defined header, kind by kind. Assumes nothing.
use mathlib.Core.Path.{◌≡◌, refl}
use mathlib.Core.List.{List, ◌++◌}
use Prim.Native.Nat.{ℕ, ◌-◌, ◌/◌}
use native.Mathlib.Omega.{arith}
use Rattle.word_bytes.specs.Bytes.{low_bytes}
use Rattle.sample_kind.specs.declared.SampleKind.{SampleKind}
use Rattle.sample_kind.specs.declared.SampleKind.TheVariants.{Pcm16, Pcm24, Float32}
use Rattle.wav_header.specs.Header.{header_length, size_of, file_length, header_of}
use Rattle.wav_header.specs.Fields.{riff_for, format_start, format_end, start_for, fact_for, data_for}

module _ (channels rate count : ℕ) where
  abbrev pub start : SampleKind → List ℕ
  start kind = start_for kind channels rate (file_length kind count - 8)

  pub pcm : (kind : SampleKind) → header_length kind ≡ 44
      → start kind ++ data_for (size_of kind count) ≡ header_of kind channels rate count
  unfolding low_bytes riff_for format_start format_end data_for header_of
  pcm Pcm16 h = refl
  pcm Pcm24 h = refl
  pcm Float32 h = absurd (omega arith)

  pub float : (kind : SampleKind) → (header_length kind ≡ 44 → ⊥)
      → start kind ++ fact_for (count / channels) ++ data_for (size_of kind count) ≡ header_of kind channels rate count
  unfolding low_bytes riff_for format_start format_end fact_for data_for header_of
  float Pcm16 h = absurd (h refl)
  float Pcm24 h = absurd (h refl)
  float Float32 h = refl
