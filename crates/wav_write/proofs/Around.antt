-- W2a. Laws on lists for a file that is put together in a lent buffer: first the samples, then the header before them
-- and the pad byte behind, with the rest of the buffer as it was. Assumes nothing.
use mathlib.Core.Path.{◌≡◌, sym, ap, ◌∙◌}
use mathlib.Core.List.{List, ◌++◌, append_assoc}
use Prim.Native.Nat.{ℕ, suc, ◌+◌, ◌≤◌, ◌<◌}
use native.Mathlib.Omega.{arith}
use lib.ListN.{length, take, drop, set, length-append, take-append-drop}
use lib.Seq.{take_at, drop_at, length-take-le, set_split, drop-drop}
use Rattle.word_bytes.specs.Bytes.{low_bytes}
use Rattle.sample_kind.specs.declared.SampleKind.{SampleKind}
use Rattle.wav_header.specs.Header.{size_of, pad_of}
use Rattle.long_header.specs.LongHeader.{header_length_for, file_length_for}
use Rattle.wav_write.specs.Placing.{padded}

-- A lent part that comes back unchanged leaves the list as it was.
pub same-part : (xs ys : List ℕ) (a k : ℕ) → ys ≡ take k (drop a xs) → take a xs ++ (ys ++ drop k (drop a xs)) ≡ xs
same-part xs ys a k e =
    rw e (ap (λ (l : List ℕ). take a xs ++ l) (take-append-drop k (drop a xs)) ∙ take-append-drop a xs)

-- The pad byte, if there is one and if there is none.
one : (xs : List ℕ) (end pad file : ℕ) → pad ≡ 1 → file ≡ suc end → end < length xs
    → set xs end 0 ≡ take end xs ++ (low_bytes pad 0 ++ drop file xs)
unfolding low_bytes
one xs end pad file p f h = rw (p, f) (set_split xs end 0 h)

none : (xs : List ℕ) (end pad file : ℕ) → pad ≡ 0 → file ≡ end → xs ≡ take end xs ++ (low_bytes pad 0 ++ drop file xs)
unfolding low_bytes
none xs end pad file p f = rw (p, f) (sym (take-append-drop end xs))

module _ (kind : SampleKind) (count : ℕ) (xs : List ℕ) (end : ℕ) (e : end
    ≡ header_length_for kind count + size_of kind count)
    (held : file_length_for kind count ≤ length xs) where
  pub pad-one : end < file_length_for kind count → set xs end 0 ≡ padded kind count xs
  pad-one h =
      rw e
      (one xs (header_length_for kind count + size_of kind count) (pad_of kind count) (file_length_for kind count)
      (omega arith)
      (omega arith) (omega arith))

  pub pad-none : file_length_for kind count ≤ end → xs ≡ padded kind count xs
  pad-none h =
      none xs (header_length_for kind count + size_of kind count) (pad_of kind count) (file_length_for kind count)
      (omega arith)
      (omega arith)

-- Samples of s bytes, a header of h bytes before them, and a pad of p bytes behind.
module _ (xs head samples pad : List ℕ) (h s p k : ℕ) (held : h + s + p ≤ length xs) (e : k ≡ s)
    (lh : length head ≡ h) (ls : length samples ≡ s) (lp : length pad ≡ p) where
  abbrev stored : List ℕ
  stored = take h xs ++ (samples ++ drop k (drop h xs))

  abbrev headed : List ℕ
  headed = head ++ drop h stored

  behind : headed ≡ head ++ (samples ++ drop (h + s) xs)
  behind =
      ap (λ (l : List ℕ). head ++ l)
      (drop_at (take h xs) (samples ++ drop k (drop h xs)) h (length-take-le h xs (omega arith))
      ∙ ap (λ (l : List ℕ). samples ++ l) (drop-drop k h xs ∙ ap (λ (n : ℕ). drop (h + n) xs) e))

  front : length (head ++ samples) ≡ h + s
  front = simp (length-append, lh, ls)

  pub put-together : take (h + s) headed ++ (pad ++ drop (h + s + p) headed)
      ≡ head ++ (samples ++ pad) ++ drop (h + s + p) xs
  put-together =
      let b = behind ∙ sym (append_assoc head samples (drop (h + s) xs)) in
      rw b
      (ap (λ (l : List ℕ). l ++ (pad ++ drop (h + s + p) (head ++ samples ++ drop (h + s) xs)))
      (take_at (head ++ samples) (drop (h + s) xs) (h + s) front)
      ∙ ap (λ (l : List ℕ). head ++ samples ++ (pad ++ l))
      (sym (drop-drop p (h + s) (head ++ samples ++ drop (h + s) xs))
      ∙ ap (drop p) (drop_at (head ++ samples) (drop (h + s) xs) (h + s) front)
      ∙ drop-drop p (h + s) xs)
      ∙ simp append_assoc)
