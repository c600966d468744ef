-- W12f. A WAV and an AIFF with the same stored numbers give the same floats, in either format, and the same whole
-- numbers, because both use one definition of what a number means. Assumes nothing.
use mathlib.Core.Path.{◌≡◌, sym, ap, ◌∙◌}
use mathlib.Core.Bool.{Bool, true, true≢false}
use mathlib.Core.List.{List}
use Prim.Native.Nat.{ℕ, ◌+◌, ◌*◌, ◌<◌}
use lib.IntN.{ℤ}
use lib.ListN.{length}
use lib.Ieee.{Float, Format}
use Rattle.loop_laws.proofs.Lists.{same-list}
use Rattle.high_first.specs.High.{big_number}
use Rattle.sample_kind.specs.declared.SampleKind.{SampleKind}
use Rattle.sample_kind.specs.declared.SampleKind.TheVariants.{Pcm16, Pcm24, Float32}
use Rattle.sample_kind.specs.Kinds.{width_of, frame_of}
use Rattle.wav_format.specs.Format.{number}
use Rattle.whole_samples.specs.Whole.{whole_of, units_of}
use Rattle.wav_samples.specs.Samples as wav
use Rattle.wav_samples.specs.Filling.{refused_by, frames_of, filled_by}
use Rattle.wav_samples.specs.Filling as wave
use Rattle.aiff_samples.specs.Samples.{sample_of, whole_number, filled, filled_whole}

-- Equal numbers at a place are equal samples.
same-sample : (f : Format) (kind : SampleKind) → wav.is_pcm kind ≡ true → (a b : List ℕ) (at : ℕ)
    → big_number (width_of kind) a at ≡ number (width_of kind) b at → sample_of f kind a at ≡ wav.sample_of f kind b at
same-sample f Pcm16 p a b at e = ap (whole_of f 16) e
same-sample f Pcm24 p a b at e = ap (whole_of f 24) e
same-sample f Float32 p a b at e = absurd (true≢false (sym p))

-- Let a be an AIFF's part and b a WAV's part, both of n frames with the same numbers.
module _ (kind : SampleKind) (pcm : wav.is_pcm kind ≡ true) (channels channel n : ℕ) (a b : List ℕ)
    (long : length a ≡ length b)
    (same : (k : ℕ) → k < n
    → big_number (width_of kind) a (k * frame_of kind channels + frame_of kind channel)
    ≡ number (width_of kind) b (k * frame_of kind channels + frame_of kind channel)) where
  pub same-floats : (f : Format) (xs : List Float)
      → filled f kind channels channel a n xs ≡ wave.filled f kind channels channel b n xs
  same-floats f xs =
      ap (λ (s : ℕ). filled_by (refused_by (wav.is_pcm kind) kind channels channel s n)
      (frames_of (sample_of f kind a) (frame_of kind channels) (frame_of kind channel) n) xs) long
      ∙ ap (λ (t : Bool). filled_by (refused_by t kind channels channel (length b) n)
      (frames_of (sample_of f kind a) (frame_of kind channels) (frame_of kind channel) n) xs) pcm
      ∙ ap (λ (ys : List Float). filled_by (refused_by true kind channels channel (length b) n) ys xs)
      (same-list _ _ n (λ k l. same-sample f kind pcm a b _ (same k l)))

  pub same_numbers : (zs : List ℤ)
      → filled_whole kind channels channel a n zs ≡ wave.filled_whole kind channels channel b n zs
  same_numbers zs =
      ap (λ (s : ℕ). filled_by (refused_by (wav.is_pcm kind) kind channels channel s n)
      (frames_of (whole_number kind a) (frame_of kind channels) (frame_of kind channel) n) zs) long
      ∙ ap (λ (ys : List ℤ). filled_by (refused_by (wav.is_pcm kind) kind channels channel (length b) n) ys zs)
      (same-list _ _ n (λ k l. ap (units_of (width_of kind * 8)) (same k l)))
