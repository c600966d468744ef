-- W2. A header has the length that `header_length` gives, shown by counting its bytes kind by kind. Assumes nothing.
use mathlib.Core.Path.{◌≡◌, refl}
use Prim.Native.Nat.{ℕ}
use lib.ListN.{length}
use Rattle.word_bytes.specs.Bytes.{low_bytes}
use Rattle.sample_kind.specs.declared.SampleKind.{SampleKind}
use Rattle.sample_kind.specs.declared.SampleKind.TheVariants.{Pcm16, Pcm24, Float32}
use Rattle.wav_header.specs.Header.{header_length, header_of}

pub length-header : (kind : SampleKind) (channels rate count : ℕ)
    → length (header_of kind channels rate count) ≡ header_length kind
unfolding low_bytes header_of
length-header Pcm16 channels rate count = refl
length-header Pcm24 channels rate count = refl
length-header Float32 channels rate count = refl
