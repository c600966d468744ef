-- W10c. Reading a file step by step gives the answer of the whole file at once, from any opening that is long enough.
-- By the opening, the walk, and the fields of `fmt `. Assumes nothing.
use mathlib.Core.Path.{◌≡◌, refl, sym, ap, ◌∙◌}
use mathlib.Core.Bool.{Bool, true, false, not, cond}
use mathlib.Core.List.{List}
use Prim.Native.Nat.{ℕ, zero, suc, ◌+◌, ◌-◌, ◌≤◌, ◌<◌}
use native.Mathlib.Omega.{arith}
use borrow.Author.Tests.{leb-true, le-leb, lt-leb, eqb-true, eqb-false}
use lib.Dec.{eqb}
use lib.ListN.{length, take, drop}
use lib.Seq.{take-take, drop-drop}
use Rattle.word_bytes.specs.Bytes.{bytes_value}
use Rattle.refusal_order.specs.Order.{first_of}
use Rattle.refusal_order.proofs.First.{none}
use Rattle.riff_chunks.specs.declared.Walked.{Walked}
use Rattle.riff_chunks.specs.declared.Walking.{Walking}
use Rattle.riff_chunks.specs.Walk.{riff_sought, begun, turned, walk_to}
use Rattle.wav_format.specs.Format.{number}
use Rattle.wav_format.specs.Tags.{wrapped_tag}
use Rattle.wav.specs.declared.Found.TheVariants as found
use Rattle.wav.proofs.Alike.{same-part}
use Rattle.wav.specs.Wave.{part_of}
use Rattle.wav_turns.specs.Turns.{finished_of}
use Rattle.riff_chunks.proofs.Lent.{walks}
use Rattle.wav_turns.proofs.Fields.{same_tag, same-found}
use Rattle.true_sizes.specs.Sizes.{true_size}
use Rattle.wav_opening.specs.Opening.{end_of, opening_needs, opening_tests, told_of, begun_of}
use Rattle.long_wav.specs.Reading.{chunk_in, walk_in, fmt_in, header_wrapped}
use Rattle.long_laws.proofs.Openings.{Opens, opens}
use Rattle.long_laws.proofs.Missing.{to_the_end}
use Rattle.long_laws.proofs.Longer.{refused-is, walked-is}
use Rattle.long_turns.specs.Turns.{chunk_by, turned_by, turns_of, by_turns, found_by_turns}

module _ (o b : List ℕ) (end : ℕ) (sizes : (id field : ℕ) → true_size o id field ≡ true_size b id field) where
  -- The 8 bytes at a place are the head of the chunk there.
  head-is : (left : ℕ) → chunk_by o end left (take 8 (drop (end - left) b)) ≡ chunk_in b (end - left)
  head-is left =
      let at = drop (end - left) b in
      let first : number 4 (take 8 at) 0 ≡ number 4 b (end - left) =
      ap bytes_value (same-part 8 (take 8 at) at (take-take 8 8 at (omega arith)) 0 4 (omega arith)) in
      let second : number 4 (take 8 at) 4 ≡ number 4 b (end - left + 4) =
      ap bytes_value (same-part 8 (take 8 at) at (take-take 8 8 at (omega arith)) 4 4 (omega arith)
      ∙ ap (take 4) (drop-drop 4 (end - left) b)) in
      rw (sizes (number 4 (take 8 at) 0) (number 4 (take 8 at) 4), first, second)

  goes : (w : Walking) → 8 ≤ w.left → w.left ≤ end
      → turned_by o w end (take 8 (drop (end - w.left) b)) ≡ turned riff_sought w (chunk_in b (end - w.left))
  goes w l h = simp (le-leb 8 w.left l, le-leb w.left end h) (ap (turned riff_sought w) (head-is w.left))

  stays : (w : Walking) → w.left < 8 → turned_by o w end (take 8 (drop (end - w.left) b)) ≡ w
  stays w l = simp (lt-leb 8 w.left l)

  all-turns : (turns_of o b end end (begun end)).seen ≡ walk_to riff_sought (chunk_in b) end
  all-turns =
      walks riff_sought (chunk_in b) (λ at. refl) end (λ w. turned_by o w end (take 8 (drop (end - w.left) b))) goes
      stays

module _ (o b : List ℕ) (size : ℕ) (whole : length b ≡ size) (shorter : length o ≤ length b)
    (same : take (length o) o ≡ take (length o) b) (enough : opening_needs o size ≡ 0) where
  opening : Opens o b size
  opening = opens o b size shorter (λ k at h. ap bytes_value (same-part (length o) o b same at k h)) enough

  told : begun_of o size ≡ told_of o size
  told = rw (le-leb (length o) size (omega arith), enough)

  refuses : (r end : ℕ) → first_of (opening_tests o size) ≡ r → (r ≡ 0 → ⊥) → by_turns r o end b ≡ header_wrapped b size
  refuses zero end e h = absurd (h refl)
  refuses (suc k) end e h =
      let due = sym opening.due ∙ e in
      ap found.Refused (sym due)
      ∙ refused-is wrapped_tag b size (omega arith) opening.needs (λ z. absurd (omega (arith, due, z)))

  answers : first_of (opening_tests o size) ≡ 0 → by_turns 0 o (end_of o size) b ≡ header_wrapped b size
  answers z =
      ap (λ (e : ℕ). by_turns 0 o e b) (opening.ends z)
      ∙ ap (λ (v : Walked). finished_of v (take 40 (part_of b v.format.body v.format.size)))
      (all-turns o b (end_of b size) (opening.sizes z))
      ∙ rw (same_tag (fmt_in b size) (walk_in b size).format.size)
      (same-found (fmt_in b size) true (not (walk_in b size).overruns) (wrapped_tag (fmt_in b size)
      (walk_in b size).format.size)
      (walk_in b size)
      ∙ walked-is wrapped_tag b size (omega arith) opening.needs y
      (to_the_end riff_sought (chunk_in b) (λ at. refl) (end_of b size) (length b) (omega (arith, held)) 12))
    where
      y : first_of (opening_tests b size) ≡ 0
      y = sym opening.due ∙ z

      held : end_of b size ≤ size
      held = leb-true (end_of b size) size ((none (opening_tests b size) refl).0 y 3)

  -- W10c. Step by step the answer is the same as at once.
  pub by-turns : found_by_turns o b size ≡ header_wrapped b size
  by-turns = rw told (by (eqb (first_of (opening_tests o size)) 0) refl)
    where
      by : (t : Bool) → eqb (first_of (opening_tests o size)) 0 ≡ t
          → by_turns (first_of (opening_tests o size)) o
          (cond (eqb (first_of (opening_tests o size)) 0) (end_of o size) 0) b
          ≡ header_wrapped b size
      by true e =
          let z = eqb-true (first_of (opening_tests o size)) 0 e in
          ap (λ (r : ℕ). by_turns r o (cond (eqb r 0) (end_of o size) 0) b) z ∙ answers z
      by false e =
          refuses (first_of (opening_tests o size)) (cond (eqb (first_of (opening_tests o size)) 0) (end_of o size) 0)
          refl
          (eqb-false _ _ e)
