-- W1d. Bytes behind the RIFF's end do not count, nor do bytes behind the body of the first `data`: if samples are
-- found, the bytes before them decide. This is shown for both readings, by the walk, which looks at no others. Assumes
-- nothing.
use mathlib.Core.Path.{◌≡◌, refl, sym, ap, ◌∙◌}
use mathlib.Core.Bool.{Bool, true, false, not, ◌&&◌}
use mathlib.Core.List.{List, ◌++◌}
use Prim.Native.Nat.{ℕ, ◌+◌, ◌≤◌, ◌<◌}
use native.Mathlib.Omega.{arith}
use borrow.Author.Tests.{lt-leb, leb-true, leb-false, not-true}
use lib.Dec.{leb}
use lib.ListN.{length, take, length-append}
use lib.Seq.{take-append-le}
use Rattle.word_bytes.specs.Bytes.{bytes_value}
use Rattle.riff_chunks.specs.declared.Chunk.{Chunk}
use Rattle.riff_chunks.specs.declared.Walked.{Walked}
use Rattle.riff_chunks.specs.Chunks.{chunk_at}
use Rattle.riff_chunks.specs.Walk.{riff_sought, up_to, end_in}
use Rattle.riff_chunks.proofs.Agree.{same-chunks, same-up-to}
use Rattle.riff_chunks.proofs.Found.{fits, behind, in_order}
use Rattle.wav.specs.declared.Found.TheVariants as found
use Rattle.wav.specs.declared.Wave.{Wave}
use Rattle.wav.specs.Wave.{riff_size, walk_in, part_of, is_wave, within, verdict, wave_in, found_by}
use Rattle.wav.proofs.Passed.{both_hold, Passed, all-passed}
use Rattle.wav.proofs.Promised.{wave-of}
use Rattle.wav.proofs.Answers.{same-answers}
use Rattle.wav.proofs.Alike.{same-part, walk-held, alike, size_same, wave-same, within_same, walk_same}

and-false : (a : Bool) → a && false ≡ false
and-false true = refl
and-false false = refl

small-refused : (tag_of : List ℕ → ℕ → ℕ) (b : List ℕ) → riff_size b < 4 → found_by tag_of b ≡ found.Refused 9
unfolding is_wave
small-refused tag_of b h = rw (lt-leb 4 (riff_size b) h, and-false, and-false, and-false)

module _ (tag_of : List ℕ → ℕ → ℕ) (b c : List ℕ) where
  -- What has to be shown for the body of the `fmt `.
  abbrev SameBody : Type 0
  SameBody =
      part_of b (walk_in b).format.body (walk_in b).format.size
      ≡ part_of c (walk_in b).format.body (walk_in b).format.size

  -- W1d. Two files that are the same up to the RIFF's end, and hold it, are answered alike.
  pub behind-riff : take (8 + riff_size b) b ≡ take (8 + riff_size b) c → 8 + riff_size b ≤ length b
      → 8 + riff_size b ≤ length c → found_by tag_of b ≡ found_by tag_of c
  behind-riff same held h = by (leb 4 (riff_size b)) refl
    where
      n : ℕ
      n = 8 + riff_size b

      body : within b ≡ true → (walk_in b).format.found ≡ true → SameBody
      body q f =
          let o = not-true _ (both_hold (leb n (length b)) (not (walk_in b).overruns) q).1 in
          let e = fits (end_in b n) riff_sought.format _ o f in
          same-part n b c same (walk_in b).format.body (walk_in b).format.size (omega arith)

      by : (t : Bool) → leb 4 (riff_size b) ≡ t → found_by tag_of b ≡ found_by tag_of c
      by false e =
          let s = size_same n b c same (omega arith) in
          let k = leb-false 4 (riff_size b) e in
          small-refused tag_of b k ∙ sym (small-refused tag_of c (omega arith))
      by true e =
          let s = size_same n b c same (omega arith) in
          let k = leb-true 4 (riff_size b) e in
          let holds : 8 + riff_size c ≤ length c = omega arith in
          let chunks = same-chunks (chunk_at bytes_value b) (chunk_at bytes_value c) n (alike n b c same) 12 in
          let v = walk_same n b c same held holds (omega arith) (ap (up_to riff_sought) chunks) in
          same-answers tag_of b c (wave-same n b c same held holds (omega arith) k)
          (within_same n b c same held holds v) v (λ q f g. body q f)

  passed-alike : Passed tag_of b → (n : ℕ) → (walk_in b).samples.body ≤ n → take n b ≡ take n c
      → 8 + riff_size c ≤ length c → found_by tag_of b ≡ found_by tag_of c
  passed-alike p n h same holds =
      let held = p.held in
      let walk = walk-held b held in
      let there = sym (ap (λ (u : Walked). u.samples.found) walk) ∙ p.has-samples in
      let place = ap (λ (u : Walked). u.samples.body) walk in
      let reached = behind riff_sought f (λ at. refl) end riff_sought.samples end (leb (12 + 8) end) 12 there in
      let inside = fits (end_in b end) riff_sought.samples _ p.fits p.has-samples in
      let chunks =
      same-up-to f (chunk_at bytes_value c) end riff_sought refl (λ at. refl) n (alike n b c same) 12 there
      (omega arith) in
      let v = walk_same n b c same held holds (omega arith) chunks in
      same-answers tag_of b c (wave-same n b c same held holds (omega arith) (omega arith))
      (within_same n b c same held holds v) v body
    where
      f : ℕ → Chunk
      f = chunk_at bytes_value b

      end : ℕ
      end = 8 + riff_size b

      body : within b ≡ true → (walk_in b).format.found ≡ true → (walk_in b).samples.found ≡ true → SameBody
      body q x y =
          let e = end_in b end in
          let o = in_order riff_sought f (λ at. refl) e refl refl e (leb (12 + 8) e) 12 x y in
          same-part n b c same (walk_in b).format.body (walk_in b).format.size (omega arith)

  -- W1d. If samples are found, the bytes before them decide: another file with the same bytes there, that holds its
  -- RIFF, is answered alike.
  pub header-decides : (w : Wave) → found_by tag_of b ≡ found.Wave w → take w.start b ≡ take w.start c
      → 8 + riff_size c ≤ length c → found_by tag_of c ≡ found.Wave w
  header-decides w e same holds =
      let o = wave-of (verdict tag_of b) (wave_in tag_of b) w e in
      let l = ap (λ (v : Wave). v.start) o.1 in
      sym (passed-alike (all-passed tag_of b o.0) w.start (omega arith) same holds) ∙ e

  -- W1d. So the bytes behind the samples do not count.
  pub behind-data : (w : Wave) → found_by tag_of b ≡ found.Wave w
      → take (w.start + w.length) b ≡ take (w.start + w.length) c → 8 + riff_size c ≤ length c
      → found_by tag_of c ≡ found.Wave w
  behind-data w e same holds =
      header-decides w e (same-part (w.start + w.length) b c same 0 w.start (omega arith)) holds

-- W1d. What follows a file that holds its RIFF, as in a larger buffer, does not count.
pub longer : (tag_of : List ℕ → ℕ → ℕ) (b more : List ℕ) → 8 + riff_size b ≤ length b
    → found_by tag_of (b ++ more) ≡ found_by tag_of b
longer tag_of b more h =
    sym (behind-riff tag_of b (b ++ more) (sym (take-append-le (8 + riff_size b) b more h)) h
    (simp length-append (omega arith)))
