-- W12h, W12i. Bytes behind the FORM's end do not count, and neither does the block size of the `SSND`. By the walk,
-- which looks at nothing behind the end, and by the fields that are read. Assumes nothing.
use mathlib.Core.Path.{◌≡◌, refl, sym, ap, ◌∙◌}
use mathlib.Core.Bool.{Bool, true, false, not, ◌&&◌}
use mathlib.Core.List.{List, ◌++◌}
use Prim.Native.Nat.{ℕ, ◌+◌, ◌≤◌, ◌<◌, min}
use native.Mathlib.Omega.{arith}
use borrow.Author.Tests.{le-leb, lt-leb, leb-true, leb-false, not-true}
use lib.Dec.{leb}
use lib.ListN.{length, take, length-append}
use lib.Seq.{take-append-le}
use Rattle.refusal_order.specs.Order.{first_of}
use Rattle.high_first.specs.High.{big_value}
use Rattle.riff_chunks.specs.declared.Chunk.{Chunk}
use Rattle.riff_chunks.specs.declared.Walked.{Walked}
use Rattle.riff_chunks.specs.Walk.{up_to, seen_of, walked_from, walk_to, end_in}
use Rattle.riff_chunks.proofs.Agree.{Alike, same-chunks}
use Rattle.form_chunks.specs.Form.{comm_id, ssnd_id, form_sought, form_chunk}
use Rattle.form_chunks.proofs.Inside.{spot-inside}
use Rattle.wav.proofs.Alike.{same-part}
use Rattle.wav.proofs.Passed.{both_hold}
use Rattle.aiff.specs.declared.Found.{Found}
use Rattle.aiff.specs.declared.Found.TheVariants as found
use Rattle.aiff.specs.Aiff.{form_size, walk_in, head_of, comm_of, ssnd_of, is_aiff, within, tests_of, sound_of}
use Rattle.aiff.specs.Aiff.{answered}
use Rattle.aiff.specs.Aiff.{found_of, found_in}

-- W12i. Only the first four bytes of an `SSND`, its offset, count.
pub block-ignored : (aiff held : Bool) (end : ℕ) (c s t : List ℕ) (w : Walked) → take 4 s ≡ take 4 t
    → found_of aiff held end c s w ≡ found_of aiff held end c t w
block-ignored aiff held end c s t w e = rw e

abbrev judged : Bool → Bool → List ℕ → List ℕ → Walked → Found
judged aiff fits c s w = answered (first_of (tests_of aiff fits c s w)) (sound_of c s w)

-- The first bytes of the chunks matter only if the first two tests pass.
heads-matter : (aiff fits : Bool) (c d s t : List ℕ) (w : Walked) → (fits ≡ true → (c ≡ d) × (s ≡ t))
    → judged aiff fits c s w ≡ judged aiff fits d t w
heads-matter false fits c d s t w h = refl
heads-matter true false c d s t w h = refl
heads-matter true true c d s t w h = rw ((h refl).0, (h refl).1)

and-false : (a : Bool) → a && false ≡ false
and-false true = refl
and-false false = refl

small-refused : (b : List ℕ) → form_size b < 4 → found_in b ≡ found.Refused 20
unfolding is_aiff
small-refused b h = rw (lt-leb 4 (form_size b) h, and-false, and-false, and-false)

-- If a file holds its FORM, the walk ends at the FORM's end.
pub walk-held : (b : List ℕ) → 8 + form_size b ≤ length b
    → walk_in b ≡ walk_to form_sought (form_chunk b) (8 + form_size b)
walk-held b h =
    let e : end_in b (8 + form_size b) ≡ 8 + form_size b = omega arith in
    ap (walk_to form_sought (form_chunk b)) e

module _ (b c : List ℕ) (same : take (8 + form_size b) b ≡ take (8 + form_size b) c) (held : 8 + form_size b ≤ length b)
    (holds : 8 + form_size b ≤ length c) where
  abbrev n : ℕ
  n = 8 + form_size b

  alike : Alike (form_chunk b) (form_chunk c) n
  alike at h = rw (same-part n b c same at 4 (omega arith), same-part n b c same (at + 4) 4 (omega arith))

  size_same : form_size b ≡ form_size c
  size_same = ap big_value (same-part n b c same 4 4 (omega arith))

  walk_same : walk_in b ≡ walk_in c
  walk_same =
      let s = size_same in
      walk-held b held
      ∙ ap (λ (cs : List Chunk). seen_of form_sought n (up_to form_sought cs))
      (same-chunks (form_chunk b) (form_chunk c) n alike 12)
      ∙ ap (λ (k : ℕ). walk_to form_sought (form_chunk c) (8 + k)) s
      ∙ sym (walk-held c (omega arith))

  within_same : within b ≡ within c
  within_same =
      let s = size_same in
      rw (le-leb n (length b) held, le-leb (8 + form_size c) (length c) (omega arith))
      (ap (λ (w : Walked). not w.overruns) walk_same)

  aiff-same : 4 ≤ form_size b → is_aiff b ≡ is_aiff c
  unfolding is_aiff
  aiff-same h =
      rw (
        le-leb 12 (length b) (omega arith),
        le-leb 12 (length c) (omega arith),
        same-part n b c same 0 4 (omega arith),
        same-part n b c same 8 4 (omega arith),
        same-part n b c same 4 4 (omega arith),
      )

  heads-same : within b ≡ true → (comm_of b ≡ comm_of c) × (ssnd_of b ≡ ssnd_of c)
  heads-same q =
      let o = not-true _ (both_hold (leb n (length b)) (not (walk_in b).overruns) q).1 in
      let cs = walked_from form_sought (form_chunk b) (end_in b n) 12 in
      let p = spot-inside (end_in b n) comm_id cs o in
      let r = spot-inside (end_in b n) ssnd_id cs o in (
        same-part n b c same (walk_in b).format.body (min (walk_in b).format.size 18) (omega arith)
            ∙ ap (λ (w : Walked). head_of 18 c w.format.body w.format.size) walk_same,
        same-part n b c same (walk_in b).samples.body (min (walk_in b).samples.size 8) (omega arith)
            ∙ ap (λ (w : Walked). head_of 8 c w.samples.body w.samples.size) walk_same,
      )

  -- W12h. Two files that are the same up to the FORM's end, and hold it, are answered alike.
  pub behind-form : found_in b ≡ found_in c
  behind-form = by (leb 4 (form_size b)) refl
    where
      by : (t : Bool) → leb 4 (form_size b) ≡ t → found_in b ≡ found_in c
      by false e =
          let s = size_same in
          let k = leb-false 4 (form_size b) e in
          small-refused b k ∙ sym (small-refused c (omega arith))
      by true e =
          heads-matter (is_aiff b) (within b) (comm_of b) (comm_of c) (ssnd_of b) (ssnd_of c) (walk_in b) heads-same
          ∙ ap (λ (t : Bool). judged t (within b) (comm_of c) (ssnd_of c) (walk_in b))
          (aiff-same (leb-true 4 (form_size b) e))
          ∙ ap (λ (t : Bool). judged (is_aiff c) t (comm_of c) (ssnd_of c) (walk_in b)) within_same
          ∙ ap (λ (w : Walked). judged (is_aiff c) (within c) (comm_of c) (ssnd_of c) w) walk_same

-- W12h. What follows a file that holds its FORM, as in a larger buffer, does not count.
pub longer : (b more : List ℕ) → 8 + form_size b ≤ length b → found_in (b ++ more) ≡ found_in b
longer b more h =
    sym (behind-form b (b ++ more) (sym (take-append-le (8 + form_size b) b more h)) h
    (simp length-append (omega arith)))
