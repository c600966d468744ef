-- W12. Reading a file step by step gives the answer of the whole file. By the first 12 bytes, the walk, and the first
-- bytes of both chunks. Assumes nothing.
use mathlib.Core.Path.{◌≡◌, refl, sym, ap, ◌∙◌}
use mathlib.Core.Bool.{Bool, true, false, cond}
use mathlib.Core.List.{List}
use Prim.Native.Nat.{ℕ, ◌+◌, ◌≤◌}
use native.Mathlib.Omega.{arith}
use borrow.Author.Tests.{leb-true, leb-false, le-leb, lt-leb}
use lib.Dec.{leb, lit≤}
use lib.ListN.{length, take, length-take}
use lib.Seq.{take-take}
use Rattle.word_bytes.specs.Bytes.{bytes_value}
use Rattle.high_first.specs.High.{big_value}
use Rattle.riff_chunks.specs.declared.Walked.{Walked}
use Rattle.wav.proofs.Alike.{same-part}
use Rattle.aiff.specs.Aiff.{form_size, walk_in, head_of, comm_of, ssnd_of, is_aiff, found_of, found_in}
use Rattle.aiff.proofs.Behind.{walk-held}
use Rattle.aiff.proofs.InHand.{found-is}
use Rattle.aiff_turns.specs.Turns.{finished_of, by_turns, found_by_turns}
use Rattle.aiff_turns.proofs.Walking.{walks}

-- ---- the first 12 bytes show 20 and the FORM size
twelve : (b : List ℕ) → leb 12 (length (take 12 b)) ≡ leb 12 (length b)
twelve b = by (leb 12 (length b)) refl
  where
    by : (t : Bool) → leb 12 (length b) ≡ t → leb 12 (length (take 12 b)) ≡ t
    by true e = le-leb 12 (length (take 12 b)) (simp length-take (omega (arith, leb-true 12 (length b) e)))
    by false e = lt-leb 12 (length (take 12 b)) (simp length-take (omega (arith, leb-false 12 (length b) e)))

module _ (b : List ℕ) where
  within-twelve : take 12 (take 12 b) ≡ take 12 b
  within-twelve = take-take 12 12 b (omega arith)

  same_size : form_size (take 12 b) ≡ form_size b
  same_size = ap big_value (same-part 12 (take 12 b) b within-twelve 4 4 (lit≤ tt))

  same-letters : is_aiff (take 12 b) ≡ is_aiff b
  unfolding is_aiff
  same-letters =
      rw (
        twelve b,
        ap bytes_value (same-part 12 (take 12 b) b within-twelve 0 4 (lit≤ tt)),
        ap bytes_value (same-part 12 (take 12 b) b within-twelve 8 4 (lit≤ tt)),
        same_size,
      )

  -- ---- if the file holds its FORM
  held : is_aiff b ≡ true → 8 + form_size b ≤ length b → by_turns 0 (8 + form_size b) b ≡ found_in b
  held p h =
      let end = 8 + form_size b in
      let e = walks b end ∙ sym (walk-held b h) in
      ap (λ (w : Walked).
      finished_of w end (head_of 18 b w.format.body w.format.size)
      (head_of 8 b w.samples.body w.samples.size))
      e
      ∙ ap (λ (t : Bool). found_of true t end (comm_of b) (ssnd_of b) (walk_in b)) (sym (le-leb end (length b) h))
      ∙ found-is b (walk_in b) (comm_of b) (ssnd_of b) (record { walk_is = refl; comm-is = refl; ssnd-is = refl }) true
      (form_size b) (sym p) refl

  pub by-turns : found_by_turns b (length b) ≡ found_in b
  by-turns = rw (same-letters, same_size) (by (is_aiff b) (leb (8 + form_size b) (length b)) refl refl)
    where
      by : (t u : Bool) → is_aiff b ≡ t → leb (8 + form_size b) (length b) ≡ u
          → by_turns (cond t (cond u 0 10) 20) (8 + form_size b) b ≡ found_in b
      by true true p q = held p (leb-true _ _ q)
      by true false p q = sym (rw (p, q))
      by false u p q = sym (rw p)
