-- W1. Reading a file step by step gives the answer of the whole file. By the first 12 bytes, the walk, and the fields
-- of `fmt `. Assumes nothing.
use mathlib.Core.Path.{◌≡◌, refl, sym, ap, ◌∙◌}
use mathlib.Core.Bool.{Bool, true, false, not, cond}
use mathlib.Core.List.{List}
use Prim.Native.Nat.{ℕ, ◌+◌, ◌≤◌}
use native.Mathlib.Omega.{arith}
use borrow.Author.Tests.{leb-true, leb-false, le-leb, lt-leb}
use lib.Dec.{leb, lit≤}
use lib.ListN.{length, take, drop, length-take}
use lib.Seq.{take-take}
use Rattle.word_bytes.specs.Bytes.{bytes_value}
use Rattle.riff_chunks.specs.declared.Walked.{Walked}
use Rattle.wav_format.specs.Tags.{wrapped_tag}
use Rattle.wav.specs.Wave.{riff_size, walk_in, fmt_of, is_wave, found_wrapped}
use Rattle.wav.proofs.Alike.{same-part, walk-held}
use Rattle.wav_turns.specs.Turns.{finished_of, by_turns, found_by_turns}
use Rattle.wav_turns.proofs.Walking.{walks}
use Rattle.wav_turns.proofs.Fields.{same_tag, same-found}

-- ---- the first 12 bytes show 9 and the RIFF size
twelve : (b : List ℕ) → leb 12 (length (take 12 b)) ≡ leb 12 (length b)
twelve b = by (leb 12 (length b)) refl
  where
    by : (t : Bool) → leb 12 (length b) ≡ t → leb 12 (length (take 12 b)) ≡ t
    by true e = le-leb 12 (length (take 12 b)) (simp length-take (omega (arith, leb-true 12 (length b) e)))
    by false e = lt-leb 12 (length (take 12 b)) (simp length-take (omega (arith, leb-false 12 (length b) e)))

same_size : (b : List ℕ) → riff_size (take 12 b) ≡ riff_size b
same_size b = ap bytes_value (same-part 12 (take 12 b) b (take-take 12 12 b (omega arith)) 4 4 (lit≤ tt))

same-letters : (b : List ℕ) → is_wave (take 12 b) ≡ is_wave b
unfolding is_wave
same-letters b =
    rw (
      twelve b,
      ap bytes_value (same-part 12 (take 12 b) b (take-take 12 12 b (omega arith)) 0 4 (lit≤ tt)),
      ap bytes_value (same-part 12 (take 12 b) b (take-take 12 12 b (omega arith)) 8 4 (lit≤ tt)),
      same_size b,
    )

-- ---- if the file holds its RIFF
held : (b : List ℕ) → is_wave b ≡ true → 8 + riff_size b ≤ length b → by_turns 0 (8 + riff_size b) b ≡ found_wrapped b
held b p h =
    let w = walk_in b in
    let e = walks b (8 + riff_size b) ∙ sym (walk-held b h) in
    ap (λ (v : Walked). finished_of v (take 40 (take v.format.size (drop v.format.body b)))) e
    ∙ rw (same_tag (fmt_of b) w.format.size)
    (same-found (fmt_of b) true (not w.overruns) (wrapped_tag (fmt_of b) w.format.size) w
    ∙ rw (p, le-leb (8 + riff_size b) (length b) h))

pub by-turns : (b : List ℕ) → found_by_turns b (length b) ≡ found_wrapped b
by-turns b = rw (same-letters b, same_size b) (by (is_wave b) (leb (8 + riff_size b) (length b)) refl refl)
  where
    by : (t u : Bool) → is_wave b ≡ t → leb (8 + riff_size b) (length b) ≡ u
        → by_turns (cond t (cond u 0 10) 9) (8 + riff_size b) b ≡ found_wrapped b
    by true true p q = held b p (leb-true _ _ q)
    by true false p q = sym (rw (p, q))
    by false u p q = sym (rw p)
