-- W1k. What a sample is. Of PCM it is the stored number over 2^15 or 2^23, without rounding in either format. Of float
-- 32 it is the value of the stored pattern in either format, where all NaN patterns are the one NaN. Assumes nothing.
use mathlib.Core.Path.{◌≡◌, refl, sym}
use mathlib.Core.Bool.{true, true≢false, cond}
use mathlib.Core.List.{List}
use Prim.Native.Nat.{ℕ, ◌-◌, ◌*◌, ◌^◌, ◌<◌}
use lib.Dec.{lit≤}
use lib.Ieee.{Format, nan, binary32, nan_bits, to_bits}
use lib.Ieee.Exact.{HasValue}
use Rattle.bit_patterns.proofs.Quiet.{bits_back}
use Rattle.sample_kind.specs.declared.SampleKind.{SampleKind}
use Rattle.sample_kind.specs.declared.SampleKind.TheVariants.{Pcm16, Pcm24, Float32}
use Rattle.sample_kind.specs.Kinds.{width_of}
use Rattle.wav_format.specs.Format.{number}
use Rattle.whole_samples.specs.Whole.{negative, size, whole_of}
use Rattle.whole_samples.proofs.Exact.{exact}
use Rattle.wav_samples.specs.Samples.{sample_of, is_pcm}
use Rattle.wav_samples.specs.Filling.{frames_of}

-- The stored number, and how many digits it has.
abbrev pub digits : SampleKind → List ℕ → ℕ → ℕ
digits kind b at = number (width_of kind) b at

abbrev pub bits_of : SampleKind → ℕ
bits_of kind = width_of kind * 8

module _ (f : Format) (b : List ℕ) (at : ℕ) where
  pub pcm-exact : (kind : SampleKind) → is_pcm kind ≡ true
      → HasValue (sample_of f kind b at) (negative (bits_of kind) (digits kind b at))
      (size (bits_of kind) (digits kind b at))
      (2 ^ (bits_of kind - 1))
  pcm-exact Pcm16 p = exact f 16 (number 2 b at) (lit≤ tt) (lit≤ tt)
  pcm-exact Pcm24 p = exact f 24 (number 3 b at) (lit≤ tt) (lit≤ tt)
  pcm-exact Float32 p = absurd (true≢false (sym p))

  pub float_stored : number 4 b at < 2 ^ 32
      → to_bits binary32 (sample_of f Float32 b at)
      ≡ cond (nan_bits binary32 (number 4 b at)) (to_bits binary32 nan) (number 4 b at)
  float_stored h = bits_back binary32 (number 4 b at) h

-- The samples of PCM frames, whatever the kind.
pub pcm-frames : (f : Format) (kind : SampleKind) (b : List ℕ) (frame first n : ℕ) → is_pcm kind ≡ true
    → frames_of (λ (at : ℕ). whole_of f (bits_of kind) (digits kind b at)) frame first n
    ≡ frames_of (sample_of f kind b) frame first n
pcm-frames f Pcm16 b frame first n p = refl
pcm-frames f Pcm24 b frame first n p = refl
pcm-frames f Float32 b frame first n p = absurd (true≢false (sym p))
