-- W10. What follows if a header is not refused, and the header in its place. Assumes nothing.
use mathlib.Core.Path.{◌≡◌, refl, sym, ◌∙◌}
use mathlib.Core.Bool.{true, false}
use mathlib.Core.List.{List, ◌++◌}
use Prim.Native.Nat.{ℕ, ◌^◌, ◌≤◌}
use borrow.Author.Tests.{leb-true, eq-eqb}
use lib.ListN.{length, drop}
use Rattle.refusal_order.proofs.First.{none}
use Rattle.sample_kind.specs.declared.SampleKind.{SampleKind}
use Rattle.wav_header.specs.Header.{header_length, size_of, header_of}
use Rattle.wav_header.specs.Refusals.{fits_riff, header_verdict, header_in}
use Rattle.wav_settings.specs.Settings.{rate_ok, whole_frames}
use Rattle.wav_header.proofs.Planned.{both_hold}
use Rattle.wav_header.proofs.Taken.{given}
use Rattle.long_header.specs.declared.Form.{Form}
use Rattle.long_header.specs.LongHeader.{header_length_for, long_header_length, header_for}
use Rattle.long_header.specs.Refusals.{header_tests_for, header_verdict_for, header_after, Room}

module _ (kind : SampleKind) (channels rate count room : ℕ) (z : header_verdict_for kind channels rate count room
    ≡ 0) where
  pub holds : header_length_for kind count ≤ room
  holds = leb-true (header_length_for kind count) room
      ((none (header_tests_for kind channels rate count room) refl).0 z 3)

  pub roomy : (n : ℕ) → n ≡ header_length_for kind count
      → Room kind channels rate count (header_length_for kind count) n
  roomy n e =
      let test = (none (header_tests_for kind channels rate count room) refl).0 z in
      let first = both_hold (rate_ok rate) (whole_frames channels count) (test 0) in
      record {
        exact = e;
        rate-fits = first.0;
        frames = first.1;
        small = leb-true (size_of kind count) (2 ^ 40) (test 1);
        mono-or-stereo = test 2;
      }

-- The header in a block of its length, by whether the file fits RIFF.
module _ (form : Form) (kind : SampleKind) (channels rate count : ℕ) (old : List ℕ)
    (r : Room kind channels rate count (header_length_for kind count) (length old)) where
  pub riff-is : fits_riff kind count ≡ true
      → header_in kind channels rate count old ≡ header_for form kind channels rate count
  riff-is f =
      let long : length old ≡ header_length kind = r.exact ∙ rw f in
      let due : header_verdict kind channels rate count (length old) ≡ 0 =
      rw (r.rate-fits, r.frames, f, eq-eqb (length old) (header_length kind) long, r.mono-or-stereo) in
      sym (given _ _ (header_of kind channels rate count) old refl due) ∙ rw f

  pub long-room : fits_riff kind count ≡ false → Room kind channels rate count (long_header_length kind) (length old)
  long-room f =
      record {
        exact = r.exact ∙ rw f;
        rate-fits = r.rate-fits;
        frames = r.frames;
        small = r.small;
        mono-or-stereo = r.mono-or-stereo;
      }

-- The block after ys is handed back for its first k bytes.
pub in_place : (form : Form) (kind : SampleKind) (channels rate count : ℕ) (old ys : List ℕ) (k : ℕ)
    → header_verdict_for kind channels rate count (length old) ≡ 0 → k ≡ header_length_for kind count
    → ys ≡ header_for form kind channels rate count → ys ++ drop k old ≡ header_after form kind channels rate count old
in_place form kind channels rate count old ys k z e w =
    let new = header_for form kind channels rate count ++ drop (header_length_for kind count) old in
    let is : ys ++ drop k old ≡ new = rw (w, e) in
    is ∙ given _ _ new old refl z
