-- W1c for a whole file: if reading found samples, its part can be filled from, for each channel that exists and a slice
-- with one place for each frame. Assumes nothing.
use mathlib.Core.Path.{◌≡◌, refl, ◌∙◌}
use mathlib.Core.Bool.{true}
use mathlib.Core.List.{List}
use Prim.Native.Nat.{ℕ, ◌/◌, ◌<◌}
use lib.ListN.{length}
use Rattle.sample_kind.specs.Kinds.{frame_of}
use Rattle.wav.specs.declared.Found.TheVariants as found
use Rattle.wav.specs.declared.Wave.{Wave}
use Rattle.wav.specs.Wave.{part_of, found_by}
use Rattle.wav.proofs.Promised.{accepted}
use Rattle.wav_samples.specs.Samples.{is_pcm}
use Rattle.wav_samples.specs.Filling.{verdict, whole_verdict}
use Rattle.wav_samples.proofs.Framing.{frames-are}
use Rattle.wav_samples.proofs.Fillable.{fillable, whole-fillable}

-- The part of a file that holds the samples, and its number of frames.
abbrev pub part_in : List ℕ → Wave → List ℕ
part_in b w = part_of b w.start w.length

abbrev pub frames_in : Wave → ℕ
frames_in w = w.length / frame_of w.kind w.channels

module _ (tag_of : List ℕ → ℕ → ℕ) (b : List ℕ) (w : Wave) (e : found_by tag_of b ≡ found.Wave w) (channel : ℕ)
    (there : channel < w.channels) where
  pub can-be-filled : verdict w.kind w.channels channel (length (part_in b w)) (frames_in w) ≡ 0
  can-be-filled =
      let a = accepted tag_of b w e in
      fillable w.kind w.channels channel (length (part_in b w)) (frames_in w) a.few there
      (a.whole ∙ frames-are w.length (frames_in w) (frame_of w.kind w.channels) a.frames refl)

  pub can-be-whole : is_pcm w.kind ≡ true → whole_verdict w.kind w.channels channel (length (part_in b w))
      (frames_in w) ≡ 0
  can-be-whole pcm =
      let a = accepted tag_of b w e in
      whole-fillable w.kind w.channels channel (length (part_in b w)) (frames_in w) a.few there
      (a.whole ∙ frames-are w.length (frames_in w) (frame_of w.kind w.channels) a.frames refl) pcm
