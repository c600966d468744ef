-- W12d, D3 for a file: if samples were found in an AIFF, what `fill` and `fill_whole` hand out are demand 3's whole
-- samples and their numbers, all of 24 bits, in both formats. By the law of `wav_bound` for any width. Assumes nothing.
use mathlib.Core.Path.{◌≡◌, sym}
use mathlib.Core.Bool.{true, true≢false}
use mathlib.Core.List.{List}
use Prim.Native.Nat.{ℕ, ◌*◌, ◌+◌, ◌^◌, ◌<◌}
use lib.Dec.{lit≤}
use lib.IntN.{ℤ}
use lib.Signed.{mag}
use lib.ListN.{length}
use lib.Ieee.{Float, Format}
use Rattle.cubic_bound.specs.Desk.{WholeSample, WholeSamples}
use Rattle.report_tests.specs.Tests.{all24}
use Rattle.high_first.specs.High.{big_number}
use Rattle.sample_kind.specs.declared.SampleKind.{SampleKind}
use Rattle.sample_kind.specs.declared.SampleKind.TheVariants.{Pcm16, Pcm24, Float32}
use Rattle.sample_kind.specs.Kinds.{frame_of}
use Rattle.whole_samples.proofs.Signs.{units_small}
use Rattle.aiff.specs.declared.Found.TheVariants as found
use Rattle.aiff.specs.declared.Sound.{Sound}
use Rattle.aiff.specs.Aiff.{found_in}
use Rattle.wav_samples.specs.Samples.{is_pcm}
use Rattle.wav_samples.specs.Filling.{whole_verdict}
use Rattle.wav_bound.proofs.PcmIsWhole.{suits}
use Rattle.wav_bound.proofs.Filled.{both, in-24, every-24}
use Rattle.aiff_samples.specs.Samples.{sample_of, whole_number, filled, filled_whole}
use Rattle.aiff_samples.proofs.Files.{part_in, frames_in, is-pcm, can-be-filled}

-- The sample at a place, by the kind.
pub whole-sample : (f : Format) (kind : SampleKind) → is_pcm kind ≡ true → (b : List ℕ) (at : ℕ)
    → WholeSample (sample_of f kind b at) (whole_number kind b at)
whole-sample f Pcm16 p b at = suits f 16 (big_number 2 b at) (lit≤ tt) (lit≤ tt)
whole-sample f Pcm24 p b at = suits f 24 (big_number 3 b at) (lit≤ tt) (lit≤ tt)
whole-sample f Float32 p b at = absurd (true≢false (sym p))

few : (kind : SampleKind) → is_pcm kind ≡ true → (b : List ℕ) (at : ℕ) → mag (whole_number kind b at) < 2 ^ 23
few Pcm16 p b at = units_small 16 (big_number 2 b at) (lit≤ tt) (lit≤ tt)
few Pcm24 p b at = units_small 24 (big_number 3 b at) (lit≤ tt) (lit≤ tt)
few Float32 p b at = absurd (true≢false (sym p))

-- ---- what a call that is not refused hands out
module _ (kind : SampleKind) (pcm : is_pcm kind ≡ true) (b : List ℕ) (channels channel n : ℕ)
    (accepted : whole_verdict kind channels channel (length b) n ≡ 0) where
  abbrev at : ℕ → ℕ
  at k = k * frame_of kind channels + frame_of kind channel

  pub filled-whole : (f : Format) (xs : List Float) (zs : List ℤ)
      → WholeSamples (filled f kind channels channel b n xs) (filled_whole kind channels channel b n zs)
  filled-whole f xs zs = rw accepted (both _ _ (λ k. whole-sample f kind pcm b (at k)) n)

  pub filled-in-24 : (zs : List ℤ) → all24 (filled_whole kind channels channel b n zs) ≡ true
  filled-in-24 zs = rw accepted (every-24 _ (λ k. in-24 (whole_number kind b (at k)) (few kind pcm b (at k))) n)

-- ---- for a file
module _ (b : List ℕ) (s : Sound) (e : found_in b ≡ found.Sound s) (channel : ℕ) (there : channel < s.channels) where
  pub file-whole : (f : Format) (xs : List Float) (zs : List ℤ)
      → WholeSamples (filled f s.kind s.channels channel (part_in b s) (frames_in s) xs)
      (filled_whole s.kind s.channels channel (part_in b s) (frames_in s) zs)
  file-whole =
      filled-whole s.kind (is-pcm b s e) (part_in b s) s.channels channel (frames_in s)
      (can-be-filled b s e channel there)

  pub file-in-24 : (zs : List ℤ) → all24 (filled_whole s.kind s.channels channel (part_in b s) (frames_in s) zs)
      ≡ true
  file-in-24 =
      filled-in-24 s.kind (is-pcm b s e) (part_in b s) s.channels channel (frames_in s)
      (can-be-filled b s e channel there)
