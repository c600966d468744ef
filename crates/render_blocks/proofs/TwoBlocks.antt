-- X2. Any length of input: bytes that come in two blocks, the first of whole samples, are rendered as they are in one.
-- So the size of the program's blocks does not show in what it writes. By induction over the samples of the first.
-- Assumes nothing.
use mathlib.Core.Path.{◌≡◌, refl, sym, ◌∙◌, ap}
use mathlib.Core.List.{List, [], ◌∷◌, ◌++◌, append_assoc}
use Prim.Native.Nat.{ℕ, zero, suc, ◌*◌, ◌≤◌}
use native.Mathlib.Nat.{suc-mul}
use native.Mathlib.Omega.{arith}
use lib.ListN.{length, take, drop, length-append, length-drop}
use lib.Seq.{take-append-le, drop-append-le}
use lib.Ieee.{Float, binary32, to_bits}
use Rattle.word_bytes.specs.Bytes.{low_bytes}
use Rattle.render_samples.specs.Samples.{Held, sample_for, after_sample, answers_for, after_samples}
use Rattle.render_blocks.specs.Blocks.{samples_of, bytes_of, after_block, rendered_of}
use Rattle.render_blocks.proofs.Turns.{first, rendered-first, after_first}

module _ (table : List Float) where
  abbrev pub Joins : Held → List ℕ → List ℕ → Type 0
  Joins h xs ys =
      (rendered_of table h (xs ++ ys) ≡ rendered_of table h xs ++ rendered_of table (after_block table h xs) ys)
      × (after_block table h (xs ++ ys) ≡ after_block table (after_block table h xs) ys)

  none_before : (h : Held) (ys : List ℕ) → Joins h [] ys
  unfolding samples_of answers_for after_samples bytes_of
  none_before h ys = (refl, refl)

  -- One more sample in front.
  one-before : (h : Held) (xs ys : List ℕ) → 4 ≤ length xs
      → Joins (after_sample table h (first table h xs)) (drop 4 xs) ys → Joins h xs ys
  one-before h xs ys some rest =
      let g = after_sample table h (first table h xs) in
      let word = low_bytes 4 (to_bits binary32 (sample_for table h (first table h xs))) in
      let more : 4 ≤ length (xs ++ ys) = simp length-append (omega arith) in
      let head : take 4 (xs ++ ys) ≡ take 4 xs = take-append-le 4 xs ys some in
      let tail : drop 4 (xs ++ ys) ≡ drop 4 xs ++ ys = drop-append-le 4 xs ys some in (
        rw (head, tail) at (rendered-first table h (xs ++ ys) more)
            ∙ ap (λ (t : List ℕ). word ++ t) rest.0
            ∙ sym (append_assoc word (rendered_of table g (drop 4 xs))
            (rendered_of table (after_block table g (drop 4 xs)) ys))
            ∙ ap (λ (t : List ℕ). t ++ rendered_of table (after_block table g (drop 4 xs)) ys)
            (sym (rendered-first table h xs some))
            ∙ ap (λ (q : Held). rendered_of table h xs ++ rendered_of table q ys) (sym (after_first table h xs some)),
        rw (head, tail) at (after_first table h (xs ++ ys) more)
            ∙ rest.1
            ∙ ap (λ (q : Held). after_block table q ys) (sym (after_first table h xs some)),
      )

  pub in_blocks : (k : ℕ) (h : Held) (xs ys : List ℕ) → length xs ≡ k * 4 → Joins h xs ys
  in_blocks zero h [] ys e = none_before h ys
  in_blocks zero h (x ∷ xs) ys e = absurd (omega arith)
  in_blocks (suc k) h xs ys e =
      let some : 4 ≤ length xs = omega (arith, suc-mul k 4) in
      one-before h xs ys some (in_blocks k (after_sample table h (first table h xs)) (drop 4 xs) ys
      (simp length-drop (omega (arith, suc-mul k 4))))
