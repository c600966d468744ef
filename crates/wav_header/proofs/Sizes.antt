-- W2. The length of a file of fewer than 2^32 samples fits a word, and that of a longer one does not fit 32 bits. By
-- the kinds. Assumes nothing.
use mathlib.Core.Path.{◌≡◌, refl}
use mathlib.Core.Bool.{true}
use Prim.Native.Nat.{ℕ, ◌-◌, ◌^◌, ◌≤◌, ◌<◌}
use native.Mathlib.Omega.{arith}
use borrow.Author.Tests.{leb-true}
use Rattle.sample_kind.specs.declared.SampleKind.{SampleKind}
use Rattle.sample_kind.specs.declared.SampleKind.TheVariants.{Pcm16, Pcm24, Float32}
use Rattle.sample_kind.specs.Kinds.{width_of}
use Rattle.wav_header.specs.Header.{header_length, size_of, file_length}
use Rattle.wav_header.specs.Refusals.{fits_riff}

pub few_bytes : (kind : SampleKind) (count : ℕ) → count < 2 ^ 32 → size_of kind count < 2 ^ 34
few_bytes Pcm16 count h = omega arith
few_bytes Pcm24 count h = omega arith
few_bytes Float32 count h = omega arith

pub many-bytes : (kind : SampleKind) (count : ℕ) → 2 ^ 32 ≤ count → 2 ^ 32 - 1 < file_length kind count - 8
many-bytes Pcm16 count h = omega arith
many-bytes Pcm24 count h = omega arith
many-bytes Float32 count h = omega arith

pub narrow : (kind : SampleKind) → width_of kind ≤ 4
narrow Pcm16 = omega arith
narrow Pcm24 = omega arith
narrow Float32 = omega arith

pub short-header : (kind : SampleKind) → header_length kind ≤ 58
short-header Pcm16 = omega arith
short-header Pcm24 = omega arith
short-header Float32 = omega arith

pub long-header : (kind : SampleKind) → 44 ≤ header_length kind
long-header Pcm16 = omega arith
long-header Pcm24 = omega arith
long-header Float32 = omega arith

pub longer-header : (kind : SampleKind) → (header_length kind ≡ 44 → ⊥) → header_length kind ≡ 58
longer-header Pcm16 h = absurd (h refl)
longer-header Pcm24 h = absurd (h refl)
longer-header Float32 h = refl

-- A file that fits RIFF has fewer than 2^32 samples.
pub fits-few : (kind : SampleKind) (count : ℕ) → fits_riff kind count ≡ true → count < 2 ^ 32
fits-few Pcm16 count h = omega (arith, leb-true (file_length Pcm16 count - 8) (2 ^ 32 - 1) h)
fits-few Pcm24 count h = omega (arith, leb-true (file_length Pcm24 count - 8) (2 ^ 32 - 1) h)
fits-few Float32 count h = omega (arith, leb-true (file_length Float32 count - 8) (2 ^ 32 - 1) h)
