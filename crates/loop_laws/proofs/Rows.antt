-- A table that a loop writes row by row, each row lent as a part of it, and its rows by number. Assumes nothing.
use mathlib.Core.Path.{◌≡◌, sym, ◌∙◌, ap}
use mathlib.Core.List.{List, ◌++◌, append_assoc}
use mathlib.Core.Logic.{⊎_elim}
use Prim.Native.Nat.{ℕ, zero, suc, ◌+◌, ◌*◌, ◌≤◌, ◌<◌}
use native.Mathlib.Nat.{suc-mul, zero-mul, add-mul, one-mul, mul-le-mul_right, eq-or-lt_of_le, le_of_suc-le-suc}
use native.Mathlib.Numerals.{add-one}
use native.Mathlib.Omega.{arith}
use lib.ListN.{length, get_or, take, drop, length-append, length-take, length-drop}
use lib.Seq.{take_at, drop_at, length-take-le, take_all, take-append-le, drop-append-le, get_or-take, get_or-drop}
use lib.Ieee.{Float}
use Rattle.loop_laws.specs.Loops.{rows}

-- ---- the loop over a table: row p is a part of `width` elements from p * width on
module _ (f : ℕ → List Float) (width : ℕ) where
  pub no_row : (xs : List Float) → take (0 * width) xs ≡ rows f 0
  unfolding rows
  no_row xs = ap (λ (n : ℕ). take n xs) (zero-mul width)

  -- The table after ys has been written as row p; k is the width as the code counts it.
  module _ (xs ys : List Float) (p k : ℕ) (e : k ≡ width) (fits : p * width + width ≤ length xs)
      (long : length ys ≡ width) where
    abbrev after : List Float
    after = take (p * width) xs ++ (ys ++ drop k (drop (p * width) xs))

    head : length (take (p * width) xs) ≡ p * width
    head = length-take-le (p * width) xs (omega arith)

    pub length-after : length after ≡ length xs
    length-after = simp (length-append, length-drop, head, long) (omega arith)

    pub row_more : ys ≡ f p → take (p * width) xs ≡ rows f p → take ((p + 1) * width) after ≡ rows f (p + 1)
    unfolding rows
    row_more h r =
        let n : (p + 1) * width ≡ p * width + width = rw (add-one, suc-mul) (omega arith) in
        rw (n, add-one)
        (ap (take (p * width + width)) (sym (append_assoc (take (p * width) xs) ys (drop k (drop (p * width) xs))))
        ∙ take_at (take (p * width) xs ++ ys) _ (p * width + width) (simp (length-append, head, long))
        ∙ cc)

  pub all-rows : (xs : List Float) (n : ℕ) → length xs ≡ n * width → take (n * width) xs ≡ rows f n → xs ≡ rows f n
  all-rows xs n l h = sym (take_all (n * width) xs (omega arith)) ∙ h

-- A part has its length when it is lent.
pub length_part : (xs : List Float) (a k width : ℕ) → k ≡ width → a + width ≤ length xs
    → length (take k (drop a xs)) ≡ width
length_part xs a k width e fits = simp (length-take, length-drop) (omega arith)

-- ---- rows by number
module _ (f : ℕ → List Float) (width : ℕ) (long : (p : ℕ) → length (f p) ≡ width) where
  pub length-rows : (n : ℕ) → length (rows f n) ≡ n * width
  unfolding rows
  length-rows zero = sym (zero-mul width)
  length-rows (suc n) = length-append (rows f n) (f n) ∙ rw (length-rows n, long n) (sym (suc-mul n width))

  pub row : (n p : ℕ) → p < n → take width (drop (p * width) (rows f n)) ≡ f p
  unfolding rows
  row zero p h = absurd (omega arith)
  row (suc n) p h =
      ⊎_elim
      (λ (e : p ≡ n).
      ap (λ (i : ℕ). take width (drop (i * width) (rows f n ++ f n))) e
      ∙ ap (take width) (drop_at (rows f n) (f n) (n * width) (length-rows n))
      ∙ take_all width (f n) (omega (arith, long n)) ∙ ap f (sym e))
      (λ (l : p < n).
      let g : p + 1 ≤ n = omega arith in
      let b : p * width + width ≤ length (rows f n) =
      omega (arith, length-rows n, add-mul p 1 width, one-mul width, mul-le-mul_right width g) in
      ap (take width) (drop-append-le (p * width) (rows f n) (f n) (omega arith))
      ∙ take-append-le width (drop (p * width) (rows f n)) (f n) (simp length-drop (omega arith))
      ∙ row n p l)
      (eq-or-lt_of_le (le_of_suc-le-suc h))

  -- Element k of row p.
  pub cell : (n p k : ℕ) (d : Float) → p < n → k < width → get_or (rows f n) (p * width + k) d ≡ get_or (f p) k d
  cell n p k d h l =
      sym (get_or-take width (drop (p * width) (rows f n)) k d l ∙ get_or-drop (p * width) (rows f n) k d)
      ∙ ap (λ (ys : List Float). get_or ys k d) (row n p h)
