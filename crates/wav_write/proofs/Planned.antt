-- W10. A file that none of 1, 19 and 13 refuses has a length, and its header fits a block of the header's length.
-- Assumes nothing.
use mathlib.Core.Path.{◌≡◌, refl}
use mathlib.Core.Bool.{Bool, true, false, cond}
use Prim.Native.Nat.{ℕ, ◌^◌, ◌≤◌}
use native.Mathlib.Omega.{arith}
use borrow.Author.Tests.{le-leb, leb-true}
use lib.ListN.{length}
use Rattle.refusal_order.specs.Order.{test_of, line_of}
use Rattle.refusal_order.proofs.First.{none}
use Rattle.word_bytes.specs.Bytes.{low_bytes}
use Rattle.sample_kind.specs.declared.SampleKind.{SampleKind}
use Rattle.sample_kind.specs.declared.SampleKind.TheVariants.{Pcm16, Pcm24, Float32}
use Rattle.wav_header.specs.Header.{header_length, size_of, header_of}
use Rattle.wav_header.specs.Refusals.{fits_riff}
use Rattle.wav_settings.specs.Settings.{rate_ok, whole_frames}
use Rattle.wav_header.proofs.Planned.{both_hold}
use Rattle.wav_header.proofs.Long.{length-header as length-riff}
use Rattle.long_header.specs.declared.Form.{Form}
use Rattle.long_header.specs.declared.Form.TheVariants.{Rf64, Bw64}
use Rattle.long_header.specs.LongHeader.{header_length_for, long_header_length, file_length_for, opening_of}
use Rattle.long_header.specs.LongHeader.{long_header_of}
use Rattle.long_header.specs.LongHeader.{header_for}
use Rattle.long_header.specs.Refusals.{file_tests, file_verdict_for, header_verdict_for, length_for64}

pub length-long : (form : Form) (kind : SampleKind) (channels rate count : ℕ)
    → length (long_header_of form kind channels rate count) ≡ long_header_length kind
unfolding low_bytes opening_of long_header_of
length-long Rf64 Pcm16 channels rate count = refl
length-long Rf64 Pcm24 channels rate count = refl
length-long Rf64 Float32 channels rate count = refl
length-long Bw64 Pcm16 channels rate count = refl
length-long Bw64 Pcm24 channels rate count = refl
length-long Bw64 Float32 channels rate count = refl

pub length-header : (form : Form) (kind : SampleKind) (channels rate count : ℕ)
    → length (header_for form kind channels rate count) ≡ header_length_for kind count
length-header form kind channels rate count = by (fits_riff kind count)
  where
    by : (t : Bool) → length (cond t (header_of kind channels rate count)
        (long_header_of form kind channels rate count))
        ≡ cond t (header_length kind) (long_header_length kind)
    by true = length-riff kind channels rate count
    by false = length-long form kind channels rate count

module _ (kind : SampleKind) (channels rate count : ℕ) (h : file_verdict_for kind channels rate count ≡ 0) where
  test : (k : ℕ) → test_of (line_of (file_tests kind channels rate count) k) ≡ true
  test = (none (file_tests kind channels rate count) refl).0 h

  pub small : size_of kind count ≤ 2 ^ 40
  small = leb-true (size_of kind count) (2 ^ 40) (test 1)

  pub length-planned : length_for64 kind channels count ≡ file_length_for kind count
  length-planned = rw ((both_hold (rate_ok rate) (whole_frames channels count) (test 0)).1, test 1, test 2)

  pub header-planned : (room : ℕ) → room ≡ header_length_for kind count
      → header_verdict_for kind channels rate count room ≡ 0
  header-planned room e = rw (test 0, test 1, test 2, le-leb (header_length_for kind count) room (omega arith))
