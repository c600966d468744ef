-- W2b. Reading a written header gives each number at its place, whatever bytes follow. The place is computed, and a
-- number is the number of its bytes. Assumes nothing.
use mathlib.Core.Path.{◌≡◌, refl, ap}
use mathlib.Core.List.{List, [], ◌∷◌, ◌++◌}
use Prim.Native.Nat.{ℕ, zero, suc, ◌+◌, ◌*◌, ◌^◌, ◌≤◌, ◌<◌}
use native.Mathlib.Omega.{arith}
use lib.ListN.{take, drop}
use lib.Seq.{take-take}
use Rattle.word_bytes.specs.Bytes.{low_bytes, bytes_value}
use Rattle.word_bytes.proofs.ReadBack.{bytes_back}
use Rattle.sample_kind.specs.declared.SampleKind.{SampleKind}
use Rattle.sample_kind.specs.Kinds.{width_of, frame_of}
use Rattle.wav_format.specs.Format.{number}
use Rattle.wav.specs.Wave.{riff_id, wave_id}
use Rattle.riff_chunks.specs.Walk.{fmt_id}
use Rattle.wav_header.specs.Header.{tag_of}
use Rattle.wav_header.specs.Fields.{format_size, riff_for, format_start, format_end, start_for}

-- Let a file be the first 36 bytes of a header, and any bytes behind them.
module _ (kind : SampleKind) (channels rate size : ℕ) (rest : List ℕ) where
  abbrev pub file : List ℕ
  file = start_for kind channels rate size ++ rest

  pub riff-id : number 4 file 0 ≡ riff_id
  unfolding low_bytes bytes_value riff_for format_start format_end
  riff-id = refl

  pub wave-id : number 4 file 8 ≡ wave_id
  unfolding low_bytes bytes_value riff_for format_start format_end
  wave-id = refl

  pub fmt-id : number 4 file 12 ≡ fmt_id
  unfolding low_bytes bytes_value riff_for format_start format_end
  fmt-id = refl

  pub riff-size : size < 256 ^ 4 → number 4 file 4 ≡ size
  unfolding low_bytes riff_for format_start format_end
  riff-size h = bytes_back 4 size h

  pub fmt-size : format_size kind < 256 ^ 4 → number 4 file 16 ≡ format_size kind
  unfolding low_bytes riff_for format_start format_end
  fmt-size h = bytes_back 4 (format_size kind) h

  -- The numbers in the body of `fmt `.
  abbrev pub body : List ℕ
  body = drop 20 file

  pub tag_is : tag_of kind < 256 ^ 2 → number 2 body 0 ≡ tag_of kind
  unfolding low_bytes riff_for format_start format_end
  tag_is h = bytes_back 2 (tag_of kind) h

  pub channels-are : channels < 256 ^ 2 → number 2 body 2 ≡ channels
  unfolding low_bytes riff_for format_start format_end
  channels-are h = bytes_back 2 channels h

  pub rate-is : rate < 256 ^ 4 → number 4 body 4 ≡ rate
  unfolding low_bytes riff_for format_start format_end
  rate-is h = bytes_back 4 rate h

  pub block-is : frame_of kind channels < 256 ^ 2 → number 2 body 12 ≡ frame_of kind channels
  unfolding low_bytes riff_for format_start format_end
  block-is h = bytes_back 2 (frame_of kind channels) h

  pub bits_are : 8 * width_of kind < 256 ^ 2 → number 2 body 14 ≡ 8 * width_of kind
  unfolding low_bytes riff_for format_start format_end
  bits_are h = bytes_back 2 (8 * width_of kind) h

-- A number that ends before a cut is read the same from the part before the cut.
inside : (k at n : ℕ) (xs : List ℕ) → at + k ≤ n → take k (drop at (take n xs)) ≡ take k (drop at xs)
inside k zero n xs h = take-take k n xs (omega arith)
inside k (suc at) zero xs h = absurd (omega arith)
inside k (suc at) (suc n) [] h = refl
inside k (suc at) (suc n) (x ∷ xs) h = inside k at n xs (omega arith)

pub number-inside : (k at n : ℕ) (xs : List ℕ) → at + k ≤ n → number k (take n xs) at ≡ number k xs at
number-inside k at n xs h = ap bytes_value (inside k at n xs h)
