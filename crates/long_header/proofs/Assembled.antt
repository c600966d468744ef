-- W10. The written parts together are the defined header, kind by kind: the header of an empty file behind the opening,
-- with its sizes overwritten. By computing. Assumes nothing.
use mathlib.Core.Path.{◌≡◌, refl, sym, ap, ◌∙◌}
use mathlib.Core.List.{List, ◌++◌}
use Prim.Native.Nat.{ℕ, ◌+◌, ◌-◌, ◌/◌, ◌≤◌}
use native.Mathlib.Omega.{arith}
use lib.ListN.{length, take, drop, length-take}
use lib.Seq.{drop-append-add}
use Rattle.word_bytes.specs.Bytes.{low_bytes}
use Rattle.sample_kind.specs.declared.SampleKind.{SampleKind}
use Rattle.sample_kind.specs.declared.SampleKind.TheVariants.{Pcm16, Pcm24, Float32}
use Rattle.wav_header.specs.Header.{size_of, pad_of, header_of}
use Rattle.long_header.specs.declared.Form.{Form}
use Rattle.long_header.specs.declared.Form.TheVariants.{Rf64, Bw64}
use Rattle.long_header.specs.LongHeader.{long_header_length, opening_of, long_header_of}
use Rattle.long_header.specs.Parts.{sized}

module _ (channels rate count : ℕ) where
  abbrev opening : Form → SampleKind → List ℕ
  opening form kind =
      opening_of form (long_header_length kind + size_of kind count + pad_of kind count - 8) (size_of kind count)
      (count / channels)

  computed : (form : Form) (kind : SampleKind)
      → sized kind (opening form kind ++ drop 12 (header_of kind channels rate 0))
      ≡ long_header_of form kind channels rate count
  unfolding low_bytes opening_of header_of long_header_of
  computed Rf64 Pcm16 = refl
  computed Rf64 Pcm24 = refl
  computed Rf64 Float32 = refl
  computed Bw64 Pcm16 = refl
  computed Bw64 Pcm24 = refl
  computed Bw64 Float32 = refl

  pub assembled : (form : Form) (kind : SampleKind) (old : List ℕ) → 36 ≤ length old
      → sized kind (opening form kind ++ drop 48 (take 36 old ++ header_of kind channels rate 0))
      ≡ long_header_of form kind channels rate count
  assembled form kind old h =
      let l : length (take 36 old) ≡ 36 = simp length-take (omega arith) in
      let e : drop 48 (take 36 old ++ header_of kind channels rate 0) ≡ drop 12 (header_of kind channels rate 0) =
      ap (λ (n : ℕ). drop (n + 12) (take 36 old ++ header_of kind channels rate 0)) (sym l)
      ∙ drop-append-add (take 36 old) (header_of kind channels rate 0) 12 in
      ap (λ (xs : List ℕ). sized kind (opening form kind ++ xs)) e ∙ computed form kind
