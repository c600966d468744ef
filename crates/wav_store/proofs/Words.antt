-- A loop that writes the low bytes of each word behind those before it. Assumes nothing.
use mathlib.Core.Path.{◌≡◌, refl, sym, ap, ◌∙◌}
use mathlib.Core.List.{List, [], ◌∷◌, ◌++◌, append-nil}
use Prim.Native.Nat.{ℕ, ◌+◌, ◌*◌, ◌≤◌, ◌<◌}
use native.Mathlib.Nat.{suc-mul, mul-le-mul_right}
use native.Mathlib.Numerals.{add-one}
use native.Mathlib.Omega.{arith}
use lib.ListN.{length, take, get_or}
use lib.Ieee.{Float}
use borrow.Rule.Slice.PartMut.{put_mid}
use Rattle.std.proofs.lemmas.List.{take_more}
use Rattle.std.proofs.lemmas.Slice.{take-put_mid}
use Rattle.std.proofs.lemmas.Grind.{flat_map-append}
use Rattle.sample_kind.specs.declared.SampleKind.{SampleKind}
use Rattle.sample_kind.specs.Kinds.{width_of}
use Rattle.stored_samples.specs.Stored.{word_of}
use Rattle.word_bytes.specs.Bytes.{low_bytes}
use Rattle.wav_store.specs.Inner.{words_of}
use Rattle.wav_store.specs.Storing.{bytes_of}
use Rattle.wav_store.proofs.Placed.{length-low}

pub words-bytes : (kind : SampleKind) (xs : List Float) → words_of (width_of kind) (word_of kind) xs ≡ bytes_of kind xs
unfolding bytes_of
words-bytes kind [] = refl
words-bytes kind (x ∷ xs) = ap (λ (bs : List ℕ). low_bytes (width_of kind) (word_of kind x) ++ bs) (words-bytes kind xs)

module _ {A : Type 0} (wide : ℕ) (v : A → ℕ) where
  pub words-more : (xs : List A) (i : ℕ) (d : A) → i < length xs
      → words_of wide v (take (i + 1) xs) ≡ words_of wide v (take i xs) ++ low_bytes wide (v (get_or xs i d))
  words-more xs i d h =
      let f : A → List ℕ = (λ (x : A). low_bytes wide (v x)) in
      ap (words_of wide v) (take_more xs i d h)
      ∙ flat_map-append f (take i xs) (get_or xs i d ∷ [])
      ∙ ap (λ (bs : List ℕ). words_of wide v (take i xs) ++ bs) (append-nil (f (get_or xs i d)))

  -- The bytes of the next word, x's, are written behind those of the first i.
  pub one-more : (xs : List A) (out ys : List ℕ) (i k : ℕ) (x : A) → i < length xs → length out ≡ length xs * wide
      → ys ≡ low_bytes wide (v x) → x ≡ get_or xs i x → take (i * wide) out ≡ words_of wide v (take i xs)
      → take ((i + 1) * wide) (put_mid (i * wide) k out ys) ≡ words_of wide v (take (i + 1) xs)
  one-more xs out ys i k x h l e is p =
      let at = i * wide in
      let n : length ys ≡ wide = ap length e ∙ length-low wide (v x) in
      let next : (i + 1) * wide ≡ at + wide = rw add-one (suc-mul i wide) in
      let far : at + wide ≤ length out = omega (arith, l, mul-le-mul_right wide h, suc-mul i wide) in
      take-put_mid at k out ys ((i + 1) * wide) (omega (arith, next, n)) (omega (arith, far))
      ∙ ap (λ (front : List ℕ). front ++ ys) p
      ∙ ap (λ (bs : List ℕ). words_of wide v (take i xs) ++ bs) (e ∙ ap (λ (z : A). low_bytes wide (v z)) is)
      ∙ sym (words-more xs i x h)
