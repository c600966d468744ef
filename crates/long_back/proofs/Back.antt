-- W10d, W10e. What `header_of` writes is read back by `read_header`, in RIFF or past it, with sizes up to 2^40; and a
-- file that fits RIFF has the header of Wish 2. The case of RIFF follows from the law of Wish 2, since only the bytes
-- before the samples are read. Assumes nothing.
use mathlib.Core.Path.{◌≡◌, refl, sym, ap, ◌∙◌}
use mathlib.Core.Bool.{Bool, true, false, true≢false, ◌||◌}
use mathlib.Core.List.{List, [], ◌++◌, append-nil}
use Prim.Native.Nat.{ℕ, ◌+◌, ◌%◌, ◌^◌, ◌≤◌}
use native.Mathlib.Omega.{arith}
use borrow.Author.Tests.{leb-true, eqb-true}
use lib.Dec.{eqb, leb}
use lib.ListN.{length, take, replicate, length-append, length-replicate}
use lib.Seq.{take_at}
use Rattle.refusal_order.specs.Order.{test_of, line_of}
use Rattle.refusal_order.proofs.First.{none}
use Rattle.word_bytes.specs.Bytes.{low_bytes, bytes_value}
use Rattle.sample_kind.specs.declared.SampleKind.{SampleKind}
use Rattle.sample_kind.specs.declared.SampleKind.TheVariants.{Pcm16, Pcm24, Float32}
use Rattle.wav_format.specs.Tags.{plain_tag, wrapped_tag}
use Rattle.wav.specs.declared.Found.TheVariants as found
use Rattle.wav.specs.Wave.{found_by}
use Rattle.true_sizes.specs.Sizes.{is_long}
use Rattle.long_wav.specs.Reading.{header_by, header_in, header_wrapped}
use Rattle.long_laws.proofs.AsBefore.{as_before}
use Rattle.long_laws.proofs.Behind.{prefix-decides}
use Rattle.wav_header.specs.Header.{header_length, size_of, pad_of, file_length, header_of}
use Rattle.wav_header.specs.Refusals.{fits_riff}
use Rattle.wav_settings.specs.Settings.{rate_ok, one_or_two, whole_frames}
use Rattle.wav_header.proofs.Planned.{both_hold, Planned, planned}
use Rattle.wav_header.proofs.Long.{length-header}
use Rattle.wav_back.proofs.Read.{wave_for}
use Rattle.wav_back.proofs.Read.{read_plain as riff-plain}
use Rattle.wav_back.proofs.Read.{read-wrapped as riff-wrapped}
use Rattle.wav_back.proofs.Written.{wave_of_any}
use Rattle.long_header.specs.declared.Form.{Form}
use Rattle.long_header.specs.LongHeader.{long_header_length, file_length_for, long_header_of}
use Rattle.long_header.specs.LongHeader.{header_for}
use Rattle.long_header.specs.Refusals.{file_tests, file_verdict_for}
use Rattle.wav_write.proofs.Planned.{length-long}
use Rattle.long_back.proofs.Read.{Fits, long_wave, read_plain, read-wrapped}

-- W10e. A file that fits RIFF has the header and the length of Wish 2.
pub riff-header : (form : Form) (kind : SampleKind) (channels rate count : ℕ) → fits_riff kind count ≡ true
    → header_for form kind channels rate count ≡ header_of kind channels rate count
riff-header form kind channels rate count f = rw f

pub riff-length : (kind : SampleKind) (count : ℕ) → fits_riff kind count ≡ true
    → file_length_for kind count ≡ file_length kind count
riff-length kind count f = rw f

-- A header that begins with `RIFF` is not read as RF64 or BW64.
not-long : (kind : SampleKind) (channels rate count : ℕ) (rest : List ℕ)
    → is_long (header_of kind channels rate count ++ rest) ≡ false
unfolding low_bytes bytes_value header_of
not-long Pcm16 channels rate count rest = refl
not-long Pcm24 channels rate count rest = refl
not-long Float32 channels rate count rest = refl

module _ (kind : SampleKind) (channels rate count : ℕ) (p : Planned kind channels rate count) where
  behind : List ℕ
  behind = replicate (size_of kind count + pad_of kind count) 0

  file : List ℕ
  file = header_of kind channels rate count ++ behind

  file-long : length file ≡ file_length kind count
  unfolding file behind
  file-long = simp (length-append, length-replicate, length-header kind channels rate count) (omega arith)

  -- Reading the header alone, for any reading that finds the file as Wish 1 does.
  riff-read : (told : List ℕ → ℕ → ℕ) → found_by told file ≡ found.Wave (wave_for kind channels rate count)
      → header_by told (header_of kind channels rate count) (file_length kind count)
      ≡ found.Wave (wave_for kind channels rate count)
  unfolding file
  riff-read told e =
      let whole = as_before told file (not-long kind channels rate count behind) ∙ e in
      let front : take (header_length kind) file ≡ header_of kind channels rate count =
      take_at (header_of kind channels rate count) behind (header_length kind) (length-header kind channels rate count)
      in
      ap (λ (n : ℕ). header_by told (header_of kind channels rate count) n) (sym file-long)
      ∙ ap (λ (b : List ℕ). header_by told b (length file)) (sym front)
      ∙ prefix-decides told file (length file) (wave_for kind channels rate count) whole

-- ---- what follows from the tests
between : (channels : ℕ) → one_or_two channels ≡ true → (1 ≤ channels) × (channels ≤ 2)
between channels h = by (eqb channels 1) (eqb channels 2) refl refl h
  where
    by : (t u : Bool) → eqb channels 1 ≡ t → eqb channels 2 ≡ u → t || u ≡ true → (1 ≤ channels) × (channels ≤ 2)
    by true u p q e = let n = eqb-true channels 1 p in (omega arith, omega arith)
    by false true p q e = let n = eqb-true channels 2 q in (omega arith, omega arith)
    by false false p q e = absurd (true≢false (sym e))

frames : (channels count : ℕ) → one_or_two channels ≡ true → whole_frames channels count ≡ true → count % channels ≡ 0
frames channels count o h = eqb-true (count % channels) 0 (rw o at h)

-- ---- both cases
module _ (form : Form) (kind : SampleKind) (channels rate count : ℕ) (z : file_verdict_for kind channels rate count
    ≡ 0) where
  test : (k : ℕ) → test_of (line_of (file_tests kind channels rate count) k) ≡ true
  test = (none (file_tests kind channels rate count) refl).0 z

  first : (rate_ok rate ≡ true) × (whole_frames channels count ≡ true)
  first = both_hold (rate_ok rate) (whole_frames channels count) (test 0)

  plan : fits_riff kind count ≡ true → Planned kind channels rate count
  plan f = planned kind channels rate count first.0 first.1 f (test 2)

  fits : Fits kind channels rate count
  fits =
      let few = between channels (test 2) in
      record {
        slow = leb-true rate 768000 (both_hold (leb 8000 rate) (leb rate 768000) first.0).1;
        some = few.0;
        few = few.1;
        whole = frames channels count (test 2) first.1;
        small = leb-true (size_of kind count) (2 ^ 40) (test 1);
      }

  -- For either reading.
  either : (told : List ℕ → ℕ → ℕ)
      → ((p : Planned kind channels rate count)
      → found_by told (file kind channels rate count p) ≡ found.Wave (wave_for kind channels rate count))
      → (header_by told (long_header_of form kind channels rate count ++ [])
      (long_header_length kind + size_of kind count + pad_of kind count)
      ≡ found.Wave (long_wave kind channels rate count))
      → header_by told (header_for form kind channels rate count) (file_length_for kind count)
      ≡ found.Wave (wave_of_any kind channels rate count)
  either told short long = by (fits_riff kind count) refl
    where
      by : (t : Bool) → fits_riff kind count ≡ t
          → header_by told (header_for form kind channels rate count) (file_length_for kind count)
          ≡ found.Wave (wave_of_any kind channels rate count)
      by true f = rw f (riff-read kind channels rate count (plan f) told (short (plan f)))
      by false f =
          let size = long_header_length kind + size_of kind count + pad_of kind count in
          rw f (ap (λ (b : List ℕ). header_by told b size) (sym (append-nil
          (long_header_of form kind channels rate count))) ∙ long)

  held : (p : Planned kind channels rate count)
      → size_of kind count + pad_of kind count ≤ length (behind kind channels rate count p)
  unfolding behind
  held p = simp length-replicate (omega arith)

  room : length (long_header_of form kind channels rate count ++ []) ≡ long_header_length kind
  room = ap length (append-nil (long_header_of form kind channels rate count)) ∙ length-long form kind channels rate
      count

  -- W10d. What was written is read back.
  pub back-plain : header_in (header_for form kind channels rate count) (file_length_for kind count)
      ≡ found.Wave (wave_of_any kind channels rate count)
  unfolding file
  back-plain =
      either plain_tag (λ p. riff-plain kind channels rate count (behind kind channels rate count p) p (held p))
      (read_plain form kind channels rate count [] fits (omega (arith, room)) (omega (arith, room)))

  pub back-wrapped : header_wrapped (header_for form kind channels rate count) (file_length_for kind count)
      ≡ found.Wave (wave_of_any kind channels rate count)
  unfolding file
  back-wrapped =
      either wrapped_tag (λ p. riff-wrapped kind channels rate count (behind kind channels rate count p) p (held p))
      (read-wrapped form kind channels rate count [] fits (omega (arith, room)) (omega (arith, room)))
