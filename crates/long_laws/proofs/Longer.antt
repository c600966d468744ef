-- W10b. If no more bytes are needed, what follows those that are there does not count: more of them are answered alike.
-- By the opening and the walk, which look at no others. Assumes nothing.
use mathlib.Core.Path.{◌≡◌, refl, sym, ap, ◌∙◌}
use mathlib.Core.Bool.{Bool, true, false, not}
use mathlib.Core.List.{List}
use Prim.Native.Nat.{ℕ, ◌+◌, ◌≤◌}
use native.Mathlib.Omega.{arith}
use borrow.Author.Tests.{le-leb, eqb-true, eqb-false}
use lib.Dec.{eqb, leb}
use lib.ListN.{length, take}
use Rattle.word_bytes.specs.Bytes.{bytes_value}
use Rattle.refusal_order.specs.Order.{first_of}
use Rattle.riff_chunks.specs.declared.Walked.{Walked}
use Rattle.riff_chunks.specs.Walk.{riff_sought, seen_of, walked_from, walk_to}
use Rattle.riff_chunks.proofs.Agree.{Alike}
use Rattle.riff_chunks.proofs.Found.{in_order}
use Rattle.wav.specs.declared.Found.TheVariants as found
use Rattle.wav.specs.Wave.{part_of}
use Rattle.wav.proofs.Alike.{same-part}
use Rattle.wav.proofs.Answers.{judged_by, body-matters}
use Rattle.wav_format.specs.Format.{number}
use Rattle.wav_opening.specs.Opening.{end_of, opening_needs, hand_tests, opening_tests, told_of, begun_of}
use Rattle.long_wav.specs.Reading.{chunk_in, walk_in, fmt_in, missing, needs_of, tag_in, header_by}
use Rattle.long_wav.proofs.Verdicts.{asked-first, asked-heads, refused-early, walk-tells}
use Rattle.long_laws.proofs.Openings.{Opens, opens}
use Rattle.long_laws.proofs.Missing.{more-at-hand, found-at-hand, same-at-hand}

pub opening-enough : (b : List ℕ) (size : ℕ) → needs_of b size ≡ 0 → opening_needs b size ≡ 0
opening-enough b size z = by (eqb (opening_needs b size) 0) refl
  where
    by : (t : Bool) → eqb (opening_needs b size) 0 ≡ t → opening_needs b size ≡ 0
    by true e = eqb-true (opening_needs b size) 0 e
    by false e = sym (asked-first b size (eqb-false _ _ e)) ∙ z

hand-passes : (b : List ℕ) (size : ℕ) → length b ≤ size → opening_needs b size ≡ 0 → first_of (hand_tests b size) ≡ 0
hand-passes b size h o = rw (le-leb (length b) size h, o)

-- A file whose opening is refused, and one whose heads are all there.
module _ (tag_of : List ℕ → ℕ → ℕ) (b : List ℕ) (size : ℕ) (h : length b ≤ size) (o : opening_needs b size ≡ 0) where
  pub refused-is : (first_of (opening_tests b size) ≡ 0 → ⊥)
      → found.Refused (first_of (opening_tests b size)) ≡ header_by tag_of b size
  refused-is r =
      let told : told_of b size ≡ begun_of b size = sym (rw (hand-passes b size h o)) in
      refused-early b size tag_of (told_of b size) told r

  pub walked-is : first_of (opening_tests b size) ≡ 0
      → missing (length b) (walked_from riff_sought (chunk_in b) (end_of b size) 12) ≡ 0
      → judged_by tag_of true (not (walk_in b size).overruns) (walk_in b size) (fmt_in b size) ≡ header_by tag_of b size
  walked-is t m =
      walk-tells b size tag_of (hand-passes b size h o) t m (walk_in b size) (fmt_in b size)
      (tag_in tag_of b size) refl refl refl

module _ (tag_of : List ℕ → ℕ → ℕ) (b c : List ℕ) (size : ℕ) (longer : length b ≤ length c) (inside : length c ≤ size)
    (same : take (length b) b ≡ take (length b) c) (enough : needs_of b size ≡ 0) where
  numbers : (k at : ℕ) → at + k ≤ length b → number k b at ≡ number k c at
  numbers k at h = ap bytes_value (same-part (length b) b c same at k h)

  first : opening_needs b size ≡ 0
  first = opening-enough b size enough

  opening : Opens b c size
  opening = opens b c size longer numbers first

  refuses : (first_of (opening_tests b size) ≡ 0 → ⊥) → header_by tag_of c size ≡ header_by tag_of b size
  refuses r =
      sym (refused-is tag_of c size inside opening.needs (λ z. r (opening.due ∙ z)))
      ∙ ap found.Refused (sym opening.due)
      ∙ refused-is tag_of b size (omega arith) first r

  walks : first_of (opening_tests b size) ≡ 0 → header_by tag_of c size ≡ header_by tag_of b size
  walks z =
      sym (walked-is tag_of c size inside opening.needs (sym opening.due ∙ z) none-missing)
      ∙ sym (ap (λ (v : Walked). judged_by tag_of true (not v.overruns) v (part_of c v.format.body
      v.format.size)) walk)
      ∙ sym (body-matters tag_of true (not (walk_in b size).overruns) (walk_in b size) (fmt_in b size)
      (part_of c (walk_in b size).format.body (walk_in b size).format.size) body)
      ∙ walked-is tag_of b size (omega arith) first z at-hand
    where
      end : ℕ
      end = end_of b size

      at-hand : missing (length b) (walked_from riff_sought (chunk_in b) end 12) ≡ 0
      at-hand = sym (asked-heads b size first z) ∙ enough

      alike : Alike (chunk_in b) (chunk_in c) (length b)
      alike at h =
          rw (
            opening.sizes z (number 4 b at) (number 4 b (at + 4)),
            numbers 4 at (omega arith),
            numbers 4 (at + 4)
                (omega arith),
          )

      chunks : walked_from riff_sought (chunk_in b) end 12 ≡ walked_from riff_sought (chunk_in c) end 12
      chunks = same-at-hand riff_sought (chunk_in b) (λ at. refl) end (length b) (chunk_in c) alike 12 at-hand

      walk : walk_in b size ≡ walk_in c size
      walk = ap (seen_of riff_sought end) chunks ∙ ap (walk_to riff_sought (chunk_in c)) (opening.ends z)

      none-missing : missing (length c) (walked_from riff_sought (chunk_in c) (end_of c size) 12) ≡ 0
      none-missing =
          ap (λ (e : ℕ). missing (length c) (walked_from riff_sought (chunk_in c) e 12)) (sym (opening.ends z))
          ∙ ap (missing (length c)) (sym chunks)
          ∙ more-at-hand (length b) (length c) (walked_from riff_sought (chunk_in b) end 12) longer at-hand

      -- Where the body of the `fmt ` matters it stands before the samples, whose head is there.
      body : not (walk_in b size).overruns ≡ true → (walk_in b size).format.found ≡ true
          → (walk_in b size).samples.found ≡ true
          → fmt_in b size ≡ part_of c (walk_in b size).format.body (walk_in b size).format.size
      body q f g =
          let o = in_order riff_sought (chunk_in b) (λ at. refl) end refl refl end (leb (12 + 8) end) 12 f g in
          let n = found-at-hand (length b) riff_sought.samples (walked_from riff_sought (chunk_in b) end 12) at-hand
          g in
          same-part (length b) b c same (walk_in b size).format.body (walk_in b size).format.size (omega arith)

  -- W10b. More bytes are answered alike.
  pub longer-same : header_by tag_of c size ≡ header_by tag_of b size
  longer-same = by (eqb (first_of (opening_tests b size)) 0) refl
    where
      by : (t : Bool) → eqb (first_of (opening_tests b size)) 0 ≡ t → header_by tag_of c size ≡ header_by tag_of b size
      by true e = walks (eqb-true _ _ e)
      by false e = refuses (eqb-false _ _ e)
