-- A reading looks only at the first 40 bytes of a `fmt `: every field lies in them. Assumes nothing.
use mathlib.Core.Path.{◌≡◌, ap}
use mathlib.Core.Bool.{Bool}
use mathlib.Core.List.{List}
use Prim.Native.Nat.{ℕ, ◌+◌, ◌≤◌}
use native.Mathlib.Omega.{arith}
use lib.Dec.{lit≤}
use lib.ListN.{take}
use lib.Seq.{take-take}
use Rattle.word_bytes.specs.Bytes.{bytes_value}
use Rattle.riff_chunks.specs.declared.Walked.{Walked}
use Rattle.wav_format.specs.Format.{number, format_ok}
use Rattle.wav_format.specs.Tags.{wraps, wrapped_tag}
use Rattle.wav.specs.Wave.{found_of}
use Rattle.wav.proofs.Alike.{same-part}

module _ (f : List ℕ) where
  field : (at k : ℕ) → at + k ≤ 40 → number k (take 40 f) at ≡ number k f at
  field at k h = ap bytes_value (same-part 40 (take 40 f) f (take-take 40 40 f (omega arith)) at k h)

  pub same_tag : (size : ℕ) → wrapped_tag (take 40 f) size ≡ wrapped_tag f size
  unfolding wraps
  same_tag size =
      rw (
        field 0 2 (lit≤ tt),
        field 14 2 (lit≤ tt),
        field 16 2 (lit≤ tt),
        field 18 2 (lit≤ tt),
        field 24 2 (lit≤ tt),
        field 26 2 (lit≤ tt),
        field 28 4 (lit≤ tt),
        field 32 4 (lit≤ tt),
        field 36 4 (lit≤ tt),
      )

  pub same-found : (wave inside : Bool) (t : ℕ) (w : Walked)
      → found_of wave inside t (take 40 f) w ≡ found_of wave inside t f w
  unfolding format_ok
  same-found wave inside t w =
      rw (field 2 2 (lit≤ tt), field 4 4 (lit≤ tt), field 12 2 (lit≤ tt), field 14 2 (lit≤ tt))
