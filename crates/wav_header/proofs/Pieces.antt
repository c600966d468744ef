-- W2. A field written into a lent part of a block: the block keeps its length, and the field follows the bytes before
-- it. Assumes nothing.
use mathlib.Core.Path.{◌≡◌, refl, sym, ap, ◌∙◌}
use mathlib.Core.List.{List, ◌++◌, append_assoc}
use Prim.Native.Nat.{ℕ, zero, suc, ◌+◌, ◌/◌, ◌≤◌}
use native.Mathlib.Omega.{arith}
use lib.ListN.{length, take, drop, length-append, length-take, length-drop}
use lib.Seq.{take_at, length-take-le}
use Rattle.word_bytes.specs.Bytes.{low_bytes}

pub length-low : (k n : ℕ) → length (low_bytes k n) ≡ k
unfolding low_bytes
length-low zero n = refl
length-low (suc k) n = ap suc (length-low k (n / 256))

-- The block after ys is handed back for the lent part; k is the size of the field as the code computes it.
module _ (xs ys : List ℕ) (at k size n : ℕ) (e : k ≡ size) (fits : at + size ≤ length xs)
    (w : ys ≡ low_bytes (length (take k (drop at xs))) n) where
  abbrev after : List ℕ
  after = take at xs ++ (ys ++ drop k (drop at xs))

  front : length (take at xs) ≡ at
  front = length-take-le at xs (omega arith)

  field : ys ≡ low_bytes size n
  field =
      let l : length (take k (drop at xs)) ≡ size = simp (length-take, length-drop) (omega arith) in
      rw l at w

  long : length ys ≡ size
  long = ap length field ∙ length-low size n

  pub length-after : length after ≡ length xs
  length-after = simp (length-append, length-drop, front, long) (omega arith)

  pub field-after : take (at + size) after ≡ take at xs ++ low_bytes size n
  field-after =
      ap (take (at + size)) (sym (append_assoc (take at xs) ys (drop k (drop at xs))))
      ∙ take_at (take at xs ++ ys) (drop k (drop at xs)) (at + size) (simp (length-append, front, long))
      ∙ ap (λ (zs : List ℕ). take at xs ++ zs) field

-- ---- fields behind a, one after the other
pub two-behind : (a b c : List ℕ) → a ++ b ++ c ≡ a ++ (b ++ c)
two-behind a b c = append_assoc a b c

pub three-behind : (a b c d : List ℕ) → a ++ b ++ c ++ d ≡ a ++ (b ++ c ++ d)
three-behind a b c d = simp append_assoc

pub four-behind : (a b c d e : List ℕ) → a ++ b ++ c ++ d ++ e ≡ a ++ (b ++ c ++ d ++ e)
four-behind a b c d e = simp append_assoc

pub five-behind : (a b c d e f : List ℕ) → a ++ b ++ c ++ d ++ e ++ f ≡ a ++ (b ++ c ++ d ++ e ++ f)
five-behind a b c d e f = simp append_assoc
