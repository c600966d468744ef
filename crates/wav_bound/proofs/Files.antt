-- W1e, D3 for a file: if a reading found samples in a PCM file, what `fill` and `fill_whole` hand out are demand 3's
-- whole samples and their numbers, all of 24 bits. Assumes nothing.
use mathlib.Core.Path.{◌≡◌}
use mathlib.Core.Bool.{true}
use mathlib.Core.List.{List}
use Prim.Native.Nat.{ℕ, ◌<◌}
use lib.IntN.{ℤ}
use lib.Ieee.{Float, Format}
use Rattle.cubic_bound.specs.Desk.{WholeSamples}
use Rattle.report_tests.specs.Tests.{all24}
use Rattle.wav.specs.declared.Found.TheVariants as found
use Rattle.wav.specs.declared.Wave.{Wave}
use Rattle.wav.specs.Wave.{found_by}
use Rattle.wav_samples.specs.Samples.{is_pcm}
use Rattle.wav_samples.specs.Filling.{filled, filled_whole}
use Rattle.wav_samples.proofs.Files.{part_in, frames_in, can-be-whole}
use Rattle.wav_bound.proofs.Filled.{filled-whole, filled-in-24}

module _ (tag_of : List ℕ → ℕ → ℕ) (b : List ℕ) (w : Wave) (e : found_by tag_of b ≡ found.Wave w)
    (pcm : is_pcm w.kind ≡ true) where
  module _ (channel : ℕ) (there : channel < w.channels) where
    pub file-whole : (f : Format) (xs : List Float) (zs : List ℤ)
        → WholeSamples (filled f w.kind w.channels channel (part_in b w) (frames_in w) xs)
        (filled_whole w.kind w.channels channel (part_in b w) (frames_in w) zs)
    file-whole =
        filled-whole w.kind pcm (part_in b w) w.channels channel (frames_in w)
        (can-be-whole tag_of b w e channel there pcm)

    pub file-in-24 : (zs : List ℤ) → all24 (filled_whole w.kind w.channels channel (part_in b w) (frames_in w) zs)
        ≡ true
    file-in-24 =
        filled-in-24 w.kind pcm (part_in b w) w.channels channel (frames_in w)
        (can-be-whole tag_of b w e channel there pcm)
