-- A block of bytes, sample by sample: what is rendered so far stands before the place `at`, what is still to come is as
-- it was, and together they are what the whole block becomes. Assumes nothing.
use mathlib.Core.Path.{◌≡◌, refl, sym, ◌∙◌, ap}
use mathlib.Core.List.{List, ◌∷◌, ◌++◌, append_assoc}
use Prim.Native.Nat.{ℕ, suc, ◌+◌, ◌-◌, ◌*◌, ◌/◌, ◌%◌, ◌<◌, ◌≤◌}
use native.Mathlib.Omega.{arith}
use lib.ListN.{length, take, drop, length-append, length-drop, take-append-drop}
use lib.Seq.{drop-drop, take_at, drop_at, length-take-le}
use lib.Ieee.{Float, binary32, of_bits, to_bits}
use Rattle.word_bytes.specs.Bytes.{low_bytes, bytes_value}
use Rattle.render_samples.specs.Samples.{Held, sample_for, after_sample, answers_for, after_samples}
use Rattle.render_blocks.specs.Blocks.{samples_of, samples_in, bytes_of, after_block, rendered_of}

module _ (table : List Float) where
  -- ---- nothing to come, and one more sample
  module _ (h : Held) (bytes : List ℕ) where
    none : length bytes < 4 → length bytes / 4 ≡ 0
    none l = omega arith

    nothing-rendered : length bytes < 4 → rendered_of table h bytes ≡ bytes
    unfolding samples_of answers_for bytes_of
    nothing-rendered l = rw (none l)

    nothing-after : length bytes < 4 → after_block table h bytes ≡ h
    unfolding samples_of after_samples
    nothing-after l = rw (none l)

    abbrev pub first : Float
    first = of_bits binary32 (bytes_value (take 4 bytes))

    one_less : 4 ≤ length bytes → length bytes / 4 ≡ suc (length (drop 4 bytes) / 4)
    one_less l = simp length-drop (omega arith)

    samples-first : 4 ≤ length bytes → samples_in bytes ≡ first ∷ samples_in (drop 4 bytes)
    unfolding samples_of
    samples-first l = rw (one_less l)

    pub after_first : 4 ≤ length bytes
        → after_block table h bytes ≡ after_block table (after_sample table h first) (drop 4 bytes)
    unfolding after_samples
    after_first l = rw (samples-first l)

    pub rendered-first : 4 ≤ length bytes
        → rendered_of table h bytes
        ≡ low_bytes 4 (to_bits binary32 (sample_for table h first))
        ++ rendered_of table (after_sample table h first) (drop 4 bytes)
    unfolding answers_for bytes_of
    rendered-first l =
        let n : length bytes / 4 * 4 ≡ 4 + length (drop 4 bytes) / 4 * 4 = simp length-drop (omega arith) in
        rw (samples-first l, n, ← drop-drop (length (drop 4 bytes) / 4 * 4) 4 bytes)
        (append_assoc (low_bytes 4 (to_bits binary32 (sample_for table h first))) _ _)

  -- ---- up to a place: h and bytes are what the loop has, h₀ and bytes₀ what it began with
  pub record Half (h₀ : Held) (bytes₀ : List ℕ) (h : Held) (bytes : List ℕ) (at : ℕ) : Type 0 where
    pub long : length bytes ≡ length bytes₀
    pub inside : at ≤ length bytes₀
    pub whole : at % 4 ≡ 0
    pub rest : drop at bytes ≡ drop at bytes₀
    pub written : rendered_of table h₀ bytes₀ ≡ take at bytes ++ rendered_of table h (drop at bytes₀)
    pub left : after_block table h₀ bytes₀ ≡ after_block table h (drop at bytes₀)

  pub begun : (h : Held) (bytes : List ℕ) → Half h bytes h bytes 0
  begun h bytes = record { long = refl; inside = omega arith; whole = refl; rest = refl; written = refl; left = refl }

  -- One turn: ys stands in the place of the sample z, of which k bytes were lent.
  pub turn : {h₀ h g : Held} {bytes₀ bytes ys : List ℕ} {at : ℕ} (k : ℕ) {z : Float} → Half h₀ bytes₀ h bytes at → k ≡ 4
      → at + 4 ≤ length bytes
      → z ≡ of_bits binary32 (bytes_value (take k (drop at bytes))) → g ≡ after_sample table h z
      → ys ≡ low_bytes 4 (to_bits binary32 (sample_for table h z))
      → Half h₀ bytes₀ g (take at bytes ++ (ys ++ drop k (drop at bytes))) (at + 4)
  unfolding low_bytes
  turn {h₀} {h} {g} {bytes₀} {bytes} {ys} {at} k {z} half e l p q r =
      let come = drop at bytes₀ in
      let some : 4 ≤ length come = simp length-drop (omega (arith, half.long)) in
      let x : z ≡ of_bits binary32 (bytes_value (take 4 come)) = p ∙ rw (e, half.rest) in
      let four : length ys ≡ 4 = rw r in
      let front : length (take at bytes ++ ys) ≡ at + 4 =
      simp (length-append, length-take-le at bytes (omega arith), four) in
      let back : drop k (drop at bytes) ≡ drop (at + 4) bytes₀ = rw (e, half.rest) (drop-drop 4 at bytes₀) in
      let apart = append_assoc (take at bytes) ys (drop k (drop at bytes)) in
      record {
        long =
            simp (length-append, length-take-le at bytes (omega arith), four, back, length-drop)
            (omega (arith, half.long));
        inside = omega (arith, half.long);
        whole = omega (arith, half.whole);
        rest = rw (← apart) (drop_at (take at bytes ++ ys) (drop k (drop at bytes)) (at + 4) front ∙ back);
        written =
            half.written ∙ ap (λ (t : List ℕ). take at bytes ++ t) (rendered-first h come some)
            ∙ rw (
              ← apart,
              take_at (take at bytes ++ ys) (drop k (drop at bytes)) (at + 4) front,
              q,
              r,
              x,
              ← drop-drop 4 at bytes₀,
            )
            (sym (append_assoc (take at bytes) _ _));
        left = half.left ∙ after_first h come some ∙ rw (q, x, ← drop-drop 4 at bytes₀);
      }

  -- The end of the block.
  module _ {h₀ h : Held} {bytes₀ bytes : List ℕ} {at : ℕ} (half : Half h₀ bytes₀ h bytes at)
      (l : length bytes - at < 4) where
    short : length (drop at bytes₀) < 4
    short = simp length-drop (omega (arith, half.long))

    pub ended-length : at ≡ length bytes₀ / 4 * 4
    ended-length = omega (arith, half.long, half.whole, half.inside)

    pub ended-after : h ≡ after_block table h₀ bytes₀
    ended-after = sym (half.left ∙ nothing-after h (drop at bytes₀) short)

    pub ended-rendered : bytes ≡ rendered_of table h₀ bytes₀
    ended-rendered =
        sym (half.written
        ∙ ap (λ (t : List ℕ). take at bytes ++ t) (nothing-rendered h (drop at bytes₀) short ∙ sym half.rest)
        ∙ take-append-drop at bytes)
