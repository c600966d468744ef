-- W12c for a whole file: if reading found samples, its part can be filled from, for each channel that exists and a
-- slice with one place for each frame. Assumes nothing.
use mathlib.Core.Path.{◌≡◌, refl, ◌∙◌}
use mathlib.Core.Bool.{Bool, true, false, cond}
use mathlib.Core.List.{List}
use Prim.Native.Nat.{ℕ, ◌*◌, ◌/◌, ◌<◌}
use lib.Dec.{eqb}
use lib.ListN.{length, take, drop}
use Rattle.sample_kind.specs.declared.SampleKind.TheVariants.{Pcm16, Pcm24}
use Rattle.sample_kind.specs.Kinds.{frame_of}
use Rattle.aiff.specs.declared.Found.TheVariants as found
use Rattle.aiff.specs.declared.Sound.{Sound}
use Rattle.aiff.specs.Aiff.{bits, comm_of, kind_of, found_in}
use Rattle.aiff.proofs.Promised.{accepted}
use Rattle.wav_samples.specs.Samples.{is_pcm}
use Rattle.wav_samples.specs.Filling.{whole_verdict}
use Rattle.wav_samples.proofs.Framing.{frames-are}
use Rattle.wav_samples.proofs.Fillable.{whole-fillable}

-- The part of a file that holds the samples, and its number of frames.
abbrev pub part_in : List ℕ → Sound → List ℕ
part_in b f = take f.length (drop f.start b)

abbrev pub frames_in : Sound → ℕ
frames_in f = f.length / frame_of f.kind f.channels

listed-pcm : (n : ℕ) → is_pcm (kind_of n) ≡ true
listed-pcm n = by (eqb n 16)
  where
    by : (t : Bool) → is_pcm (cond t Pcm16 Pcm24) ≡ true
    by true = refl
    by false = refl

module _ (b : List ℕ) (f : Sound) (e : found_in b ≡ found.Sound f) where
  -- An AIFF holds only PCM, so `is_pcm` holds.
  pub is-pcm : is_pcm f.kind ≡ true
  is-pcm = rw (accepted b f e).kind (listed-pcm (bits (comm_of b)))

  pub whole-frames : length (part_in b f) ≡ frames_in f * frame_of f.kind f.channels
  whole-frames =
      let a = accepted b f e in
      a.whole ∙ frames-are f.length (frames_in f) (frame_of f.kind f.channels) a.frames refl

  pub can-be-filled : (channel : ℕ) → channel < f.channels
      → whole_verdict f.kind f.channels channel (length (part_in b f)) (frames_in f) ≡ 0
  can-be-filled channel there =
      whole-fillable f.kind f.channels channel (length (part_in b f)) (frames_in f) (accepted b f e).few there
      whole-frames is-pcm
