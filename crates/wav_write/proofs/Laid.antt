-- W2a. The steps of a write, each as a law over what its calls ensure: the header in its place, the samples in theirs,
-- and both together as the defined file. Assumes nothing.
use mathlib.Core.Path.{◌≡◌, refl, sym, ◌∙◌}
use mathlib.Core.List.{List, [], ◌++◌, append-nil}
use Prim.Native.Nat.{ℕ, zero, suc, ◌+◌, ◌≤◌}
use native.Mathlib.Omega.{arith}
use lib.ListN.{length, take, drop, length-append, length-take, length-drop, drop_of_length-le}
use lib.Ieee.{Float}
use Rattle.word_bytes.specs.Bytes.{low_bytes}
use Rattle.sample_kind.specs.declared.SampleKind.{SampleKind}
use Rattle.wav_store.specs.Storing.{bytes_of, stored_by}
use Rattle.wav_store.proofs.Placed.{length-bytes}
use Rattle.wav_header.specs.Header.{size_of, pad_of}
use Rattle.long_header.specs.declared.Form.{Form}
use Rattle.long_header.specs.LongHeader.{header_length_for, file_length_for, header_for}
use Rattle.long_header.specs.Refusals.{header_after}
use Rattle.wav_header.proofs.Pieces.{length-low}
use Rattle.wav_header.proofs.Taken.{given}
use Rattle.wav_write.proofs.Planned.{length-header, header-planned}
use Rattle.wav_write.specs.Writing.{file_of}
use Rattle.wav_write.specs.Placing.{Room, headed, padded}
use Rattle.wav_write.proofs.Around.{put-together}

-- The header ys is handed back for the first k bytes.
module _ (form : Form) (kind : SampleKind) (channels rate count : ℕ) (old : List ℕ) where
  pub head-is : (ys : List ℕ) (k : ℕ) → Room kind channels rate count (length old) → k ≡ header_length_for kind count
      → ys ≡ header_after form kind channels rate count (take k old)
      → ys ++ drop k old ≡ headed form kind channels rate count old
  head-is ys k r e w =
      let h = r.holds in
      let l : length (take k old) ≡ header_length_for kind count = simp length-take (omega arith) in
      let z = header-planned kind channels rate count r.planned (length (take k old)) l in
      let new = header_for form kind channels rate count in
      let none : drop (header_length_for kind count) (take k old) ≡ [] =
      drop_of_length-le (take k old) {i = header_length_for kind count} (omega (arith, l)) in
      let is : ys ≡ new =
      w ∙ sym (given _ _ (new ++ drop (header_length_for kind count) (take k old)) (take k old) refl z)
      ∙ rw none (append-nil new) in
      rw (is, e)

  pub length-headed : Room kind channels rate count (length old)
      → length (headed form kind channels rate count old) ≡ length old
  length-headed r =
      let h = r.holds in
      simp (length-append, length-drop, length-header form kind channels rate count) (omega arith)

-- The samples ys are handed back for k bytes behind the first a.
pub length-stored : (xs ys : List ℕ) (a k : ℕ) → length ys ≡ k → a + k ≤ length xs
    → length (take a xs ++ (ys ++ drop k (drop a xs))) ≡ length xs
length-stored xs ys a k l h = simp (length-append, length-take, length-drop) (omega arith)

pub part-long : (xs : List ℕ) (a k : ℕ) → a + k ≤ length xs → length (take k (drop a xs)) ≡ k
part-long xs a k h = simp (length-take, length-drop) (omega arith)

pub unstored : (r v : ℕ) (new old : List ℕ) → r ≡ v → (r ≡ 0 → ⊥) → stored_by v new old ≡ old
unstored r zero new old e h = absurd (h e)
unstored r (suc v) new old e h = refl

pub in_place : (r v : ℕ) (new old : List ℕ) → r ≡ v → r ≡ 0 → stored_by v new old ≡ new
in_place r v new old e h = rw (sym e ∙ h)

-- Header, samples and pad together are the file.
pub laid : (form : Form) (kind : SampleKind) (channels rate : ℕ) (samples : List Float) (xs ys : List ℕ) (a k : ℕ)
    → a ≡ header_length_for kind (length samples) → k ≡ size_of kind (length samples) → ys ≡ bytes_of kind samples
    → file_length_for kind (length samples) ≤ length xs
    → padded kind (length samples)
    (headed form kind channels rate (length samples) (take a xs ++ (ys ++ drop k (drop a xs))))
    ≡ file_of form kind channels rate samples ++ drop (file_length_for kind (length samples)) xs
unfolding file_of
laid form kind channels rate samples xs ys a k p q s h =
    let n = length samples in
    rw (p, s)
    (put-together xs (header_for form kind channels rate n) (bytes_of kind samples) (low_bytes (pad_of kind n) 0)
    (header_length_for kind n) (size_of kind n) (pad_of kind n) k h q (length-header form kind channels rate n)
    (length-bytes kind samples)
    (length-low (pad_of kind n) 0))
