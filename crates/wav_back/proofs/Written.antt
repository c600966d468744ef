-- W2b. What `write` made is read back, whatever the buffer holds behind it: the part for the samples is their bytes,
-- and if the file fits RIFF, the readings of Wish 1 give the same kind, channels and rate. From the law over a header
-- and any bytes behind it. Assumes nothing.
use mathlib.Core.Path.{◌≡◌, refl, sym, ap, ◌∙◌}
use mathlib.Core.Bool.{true}
use mathlib.Core.List.{List, ◌++◌, append_assoc}
use Prim.Native.Nat.{ℕ, ◌+◌, ◌≤◌}
use native.Mathlib.Omega.{arith}
use lib.ListN.{length, take, drop, length-append}
use lib.Seq.{take_at, drop_at}
use lib.Ieee.{Float}
use Rattle.word_bytes.specs.Bytes.{low_bytes}
use Rattle.sample_kind.specs.declared.SampleKind.{SampleKind}
use Rattle.wav.specs.declared.Found.TheVariants as found
use Rattle.wav.specs.declared.Wave.{Wave}
use Rattle.wav.specs.Wave.{part_of, found_in, found_wrapped}
use Rattle.wav_store.specs.Storing.{bytes_of}
use Rattle.wav_store.proofs.Placed.{length-bytes}
use Rattle.wav_header.specs.Header.{size_of, pad_of, header_of}
use Rattle.wav_header.specs.Refusals.{fits_riff}
use Rattle.wav_settings.specs.Settings.{rate_ok, whole_frames}
use Rattle.wav_header.proofs.Planned.{both_hold, Planned, planned}
use Rattle.wav_header.proofs.Pieces.{length-low}
use Rattle.wav_header.proofs.Taken.{given}
use Rattle.long_header.specs.declared.Form.{Form}
use Rattle.long_header.specs.LongHeader.{header_length_for, file_length_for, header_for}
use Rattle.wav_write.specs.Writing.{file_of, verdict, written}
use Rattle.wav_write.proofs.Order.{write-none}
use Rattle.wav_write.proofs.Planned.{length-header}
use Rattle.wav_back.proofs.Read.{wave_for, read_plain, read-wrapped}

-- The answer for a file of `count` samples, whether it fits RIFF or not.
abbrev pub wave_of_any : SampleKind → ℕ → ℕ → ℕ → Wave
wave_of_any kind channels rate count =
    record {
      kind = kind;
      channels = channels;
      rate = rate;
      start = header_length_for kind count;
      length = size_of kind count;
    }

module _ (form : Form) (kind : SampleKind) (channels rate : ℕ) (samples : List Float) (behind : List ℕ) where
  rest : List ℕ
  rest = bytes_of kind samples ++ low_bytes (pad_of kind (length samples)) 0 ++ behind

  file-is : file_of form kind channels rate samples ++ behind
      ≡ header_for form kind channels rate (length samples) ++ rest
  unfolding file_of rest
  file-is =
      append_assoc (header_for form kind channels rate (length samples))
      (bytes_of kind samples ++ low_bytes (pad_of kind (length samples)) 0) behind

  -- The part that holds the samples is their bytes.
  pub part-read : part_of (file_of form kind channels rate samples ++ behind) (header_length_for kind (length samples))
      (size_of kind (length samples))
      ≡ bytes_of kind samples
  unfolding rest
  part-read =
      ap (λ (b : List ℕ). part_of b (header_length_for kind (length samples)) (size_of kind (length samples))) file-is
      ∙ ap (take (size_of kind (length samples)))
      (drop_at (header_for form kind channels rate (length samples)) rest (header_length_for kind (length samples))
      (length-header form kind channels rate (length samples))
      ∙ append_assoc (bytes_of kind samples) (low_bytes (pad_of kind (length samples)) 0) behind)
      ∙ take_at (bytes_of kind samples) (low_bytes (pad_of kind (length samples)) 0 ++ behind) _
      (length-bytes kind samples)

  held : size_of kind (length samples) + pad_of kind (length samples) ≤ length rest
  unfolding rest
  held = simp (length-append, length-bytes kind samples, length-low (pad_of kind (length samples)) 0) (omega arith)

  -- Let the file not be refused and fit RIFF; then both readings find it.
  module _ (room : ℕ) (v : verdict kind channels rate samples room ≡ 0)
      (f : fits_riff kind (length samples) ≡ true) where
    plan : Planned kind channels rate (length samples)
    plan =
        let test = (write-none kind channels rate samples room).0 v in
        let first = both_hold (rate_ok rate) (whole_frames channels (length samples)) (test 0) in
        planned kind channels rate (length samples) first.0 first.1 f (test 2)

    riff-is : file_of form kind channels rate samples ++ behind ≡ header_of kind channels rate (length samples) ++ rest
    riff-is = file-is ∙ rw f

    pub read-file : found_in (file_of form kind channels rate samples ++ behind)
        ≡ found.Wave (wave_for kind channels rate (length samples))
    read-file = ap found_in riff-is ∙ read_plain kind channels rate (length samples) rest plan held

    pub read-file-wrapped : found_wrapped (file_of form kind channels rate samples ++ behind)
        ≡ found.Wave (wave_for kind channels rate (length samples))
    read-file-wrapped = ap found_wrapped riff-is ∙ read-wrapped kind channels rate (length samples) rest plan held

-- Reading the buffer that a file was written into.
pub read-buffer : (form : Form) (kind : SampleKind) (channels rate : ℕ) (samples : List Float) (old : List ℕ)
    → verdict kind channels rate samples (length old) ≡ 0 → fits_riff kind (length samples) ≡ true
    → found_in (written form kind channels rate samples old) ≡ found.Wave (wave_for kind channels rate (length samples))
read-buffer form kind channels rate samples old v f =
    let behind = drop (file_length_for kind (length samples)) old in
    ap found_in
    (sym (given (verdict kind channels rate samples (length old)) _
    (file_of form kind channels rate samples ++ behind) old refl v))
    ∙ read-file form kind channels rate samples behind (length old) v f
