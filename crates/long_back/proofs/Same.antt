-- W10e. A file that fits RIFF is written with the bytes of Wish 2: the same refusal or length, and the same buffer. The
-- file and the tests of Wish 2 are stated here as that wish has them. If the file fits RIFF, the test of 19 and that of
-- 32 bits both hold. Assumes nothing.
use mathlib.Core.Path.{◌≡◌, refl}
use mathlib.Core.Bool.{Bool, true, false, ◌&&◌}
use mathlib.Core.List.{List, [], ◌∷◌, ◌++◌}
use Prim.Native.Nat.{ℕ, ◌-◌, ◌^◌}
use native.Mathlib.Omega.{arith}
use borrow.Author.Tests.{le-leb, leb-true}
use lib.Dec.{leb}
use lib.ListN.{length, drop}
use lib.Ieee.{Float}
use Rattle.refusal_order.specs.Order.{Test, ◌unless◌, first_of}
use Rattle.word_bytes.specs.Bytes.{low_bytes}
use Rattle.sample_kind.specs.declared.SampleKind.{SampleKind}
use Rattle.wav_store.specs.Storing.{all_fit, bytes_of}
use Rattle.wav_header.specs.Header.{size_of, pad_of, file_length, header_of}
use Rattle.wav_header.specs.Refusals.{fits_riff, count_ok, written_by}
use Rattle.wav_settings.specs.Settings.{rate_ok, one_or_two, whole_frames}
use Rattle.long_header.specs.declared.Form.{Form}
use Rattle.long_header.specs.Refusals.{size_ok}
use Rattle.wav_write.specs.Writing.{file_of, verdict, written}

-- ---- Wish 2: a RIFF file, and its refusals, of which 1 covers a file past 32 bits
abbrev pub riff_file : SampleKind → ℕ → ℕ → List Float → List ℕ
riff_file kind channels rate samples =
    header_of kind channels rate (length samples)
    ++ (bytes_of kind samples ++ low_bytes (pad_of kind (length samples)) 0)

abbrev pub riff_tests : SampleKind → ℕ → ℕ → List Float → ℕ → List Test
riff_tests kind channels rate samples room =
    1 unless (rate_ok rate && count_ok kind channels (length samples))
    ∷ 13 unless one_or_two channels
    ∷ 14 unless leb (file_length kind (length samples)) room
    ∷ 15 unless all_fit kind samples
    ∷ []

abbrev pub riff_written : SampleKind → ℕ → ℕ → List Float → List ℕ → List ℕ
riff_written kind channels rate samples old =
    written_by (first_of (riff_tests kind channels rate samples (length old)))
    (riff_file kind channels rate samples ++ drop (file_length kind (length samples)) old) old

-- ---- the same
and-true : (a : Bool) → a && true ≡ a
and-true true = refl
and-true false = refl

module _ (form : Form) (kind : SampleKind) (channels rate : ℕ) (samples : List Float)
    (f : fits_riff kind (length samples) ≡ true) where
  small : size_ok kind (length samples) ≡ true
  small =
      let n = length samples in
      le-leb (size_of kind n) (2 ^ 40) (omega (arith, leb-true (file_length kind n - 8) (2 ^ 32 - 1) f))

  pub same-verdict : (room : ℕ) → verdict kind channels rate samples room
      ≡ first_of (riff_tests kind channels rate samples room)
  same-verdict room = rw (small, f, and-true (whole_frames channels (length samples)))

  pub same-file : file_of form kind channels rate samples ≡ riff_file kind channels rate samples
  unfolding file_of
  same-file = rw f

  pub same_bytes : (old : List ℕ) → written form kind channels rate samples old
      ≡ riff_written kind channels rate samples old
  unfolding file_of
  same_bytes old = rw (small, f, and-true (whole_frames channels (length samples)))
