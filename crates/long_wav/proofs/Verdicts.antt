-- W10f. The refusals in their order, by the steps of a reading: the opening, a head that is not lent, and the walk.
-- Assumes nothing.
use mathlib.Core.Path.{◌≡◌, refl, sym, ap, ◌∙◌}
use mathlib.Core.Bool.{Bool, true, false, not, cond, ◌&&◌}
use mathlib.Core.List.{List, [], ◌∷◌}
use Prim.Native.Nat.{ℕ}
use borrow.Author.Tests.{eqb-true, eqb-false, eq-eqb, ne_eqb}
use lib.Dec.{eqb, leb}
use lib.ListN.{length}
use Rattle.refusal_order.specs.Order.{Test, ◌unless◌, first_of}
use Rattle.refusal_order.proofs.First.{none}
use Rattle.riff_chunks.specs.declared.Walked.{Walked}
use Rattle.riff_chunks.specs.Walk.{riff_sought, walked_from}
use Rattle.wav.specs.declared.Found.TheVariants as found
use Rattle.wav_format.specs.Format.{format_ok}
use Rattle.wav.specs.Wave.{part_of, answered, found_of}
use Rattle.wav.proofs.InHand.{refused}
use Rattle.wav_opening.specs.declared.Begun.{Begun}
use Rattle.wav_opening.specs.Opening.{end_of, is_wave, sizes_there, sizes_small, riff_held, opening_needs, hand_tests}
use Rattle.wav_opening.specs.Opening.{opening_tests, told_of, begun_of}
use Rattle.long_wav.specs.Reading.{chunk_in, walk_in, fmt_in, missing, needs_of, tag_in, verdict, wave_in}
use Rattle.long_wav.specs.Reading.{header_by}

-- ---- the table, by its tests; `more` are those behind 10
abbrev all : Bool → Bool → Bool → Bool → Bool → Bool → Bool → List Test → ℕ
all t1 t2 t9 t18 t19 held fits more =
    first_of
    (1 unless t1 ∷ 2 unless t2 ∷ 9 unless t9 ∷ 18 unless t18 ∷ 19 unless t19 ∷ 10 unless (held && fits) ∷ more)

by_hand : (t1 enough t2 t9 t18 t19 held fits : Bool) (more : List Test) → (enough ≡ false → t2 ≡ false)
    → (first_of (1 unless t1 ∷ 2 unless enough ∷ []) ≡ 0 → ⊥)
    → all t1 t2 t9 t18 t19 held fits more ≡ first_of (1 unless t1 ∷ 2 unless enough ∷ [])
by_hand false enough t2 t9 t18 t19 held fits more e h = refl
by_hand true false t2 t9 t18 t19 held fits more e h = rw (e refl)
by_hand true true t2 t9 t18 t19 held fits more e h = absurd (h refl)

by-opening : (t9 t18 t19 held fits : Bool) (more : List Test)
    → (first_of (9 unless t9 ∷ 18 unless t18 ∷ 19 unless t19 ∷ 10 unless held ∷ []) ≡ 0 → ⊥)
    → all true true t9 t18 t19 held fits more
    ≡ first_of (9 unless t9 ∷ 18 unless t18 ∷ 19 unless t19 ∷ 10 unless held ∷ [])
by-opening false t18 t19 held fits more h = refl
by-opening true false t19 held fits more h = refl
by-opening true true false held fits more h = refl
by-opening true true true false fits more h = refl
by-opening true true true true fits more h = absurd (h refl)

module _ (b : List ℕ) (size : ℕ) where
  -- The fields of the answer that begins a reading.
  pub opened : (k : Begun) → k ≡ begun_of b size → k.refusal ≡ 0
      → (first_of (hand_tests b size) ≡ 0) × ((first_of (opening_tests b size) ≡ 0) × (k.end ≡ end_of b size))
  opened k e z = by (eqb (first_of (hand_tests b size)) 0) refl
    where
      by : (t : Bool) → eqb (first_of (hand_tests b size)) 0 ≡ t
          → (first_of (hand_tests b size) ≡ 0) × ((first_of (opening_tests b size) ≡ 0) × (k.end ≡ end_of b size))
      by true h =
          let is : k ≡ told_of b size = e ∙ rw h in
          let told : first_of (opening_tests b size) ≡ 0 = sym (ap (λ (g : Begun). g.refusal) is) ∙ z in
          (eqb-true _ _ h, (told, ap (λ (g : Begun). g.end) is ∙ rw told))
      by false h =
          let is : k ≡ record { refusal = first_of (hand_tests b size); end = 0 } = e ∙ rw h in
          absurd (eqb-false _ _ h (sym (ap (λ (g : Begun). g.refusal) is) ∙ z))

  -- How many bytes are needed, by the steps of a reading.
  pub asked-first : (opening_needs b size ≡ 0 → ⊥) → needs_of b size ≡ opening_needs b size
  unfolding needs_of
  asked-first h = rw (ne_eqb (opening_needs b size) 0 h)

  pub asked-none : opening_needs b size ≡ 0 → (first_of (opening_tests b size) ≡ 0 → ⊥) → needs_of b size ≡ 0
  unfolding needs_of
  asked-none o h = rw (o, ne_eqb (first_of (opening_tests b size)) 0 h)

  pub asked-heads : opening_needs b size ≡ 0 → first_of (opening_tests b size) ≡ 0
      → needs_of b size ≡ missing (length b) (walked_from riff_sought (chunk_in b) (end_of b size) 12)
  unfolding needs_of
  asked-heads o h = rw (o, h)

  module _ (tag_of : List ℕ → ℕ → ℕ) where
    abbrev behind : List Test
    behind =
        11 unless (walk_in b size).format.found
        ∷ 12 unless (walk_in b size).samples.found
        ∷ 13 unless format_ok (tag_in tag_of b size) (fmt_in b size) (walk_in b size).format.size
        (walk_in b size).samples.size
        ∷ []

    due-by-hand : (first_of (hand_tests b size) ≡ 0 → ⊥) → verdict tag_of b size ≡ first_of (hand_tests b size)
    due-by-hand h =
        by_hand (leb (length b) size) (eqb (opening_needs b size) 0) (eqb (needs_of b size) 0) (is_wave b size)
        (sizes_there b size) (sizes_small b size) (riff_held b size) (not (walk_in b size).overruns) behind
        (λ e. rw (asked-first (eqb-false _ _ e)) e) h

    due-by-opening : first_of (hand_tests b size) ≡ 0 → (first_of (opening_tests b size) ≡ 0 → ⊥)
        → verdict tag_of b size ≡ first_of (opening_tests b size)
    due-by-opening z h =
        let held = (none (hand_tests b size) refl).0 z in
        let enough : eqb (needs_of b size) 0 ≡ true = rw (asked-none (eqb-true _ _ (held 1)) h) in
        rw (held 0, enough)
        (by-opening (is_wave b size) (sizes_there b size) (sizes_small b size) (riff_held b size)
        (not (walk_in b size).overruns) behind h)

    pub refused-early : (k : Begun) → k ≡ begun_of b size → (k.refusal ≡ 0 → ⊥)
        → found.Refused k.refusal ≡ header_by tag_of b size
    refused-early k e h = refused k.refusal (wave_in tag_of b size) h
        ∙ ap (λ (n : ℕ). answered n (wave_in tag_of b size)) due
      where
        by : (t : Bool) → eqb (first_of (hand_tests b size)) 0 ≡ t → k.refusal ≡ verdict tag_of b size
        by true z =
            let is : k ≡ told_of b size = e ∙ rw z in
            let number = ap (λ (g : Begun). g.refusal) is in
            number ∙ sym (due-by-opening (eqb-true _ _ z) (λ q. h (number ∙ q)))
        by false z =
            let is : k ≡ record { refusal = first_of (hand_tests b size); end = 0 } = e ∙ rw z in
            ap (λ (g : Begun). g.refusal) is ∙ sym (due-by-hand (eqb-false _ _ z))

        due : k.refusal ≡ verdict tag_of b size
        due = by (eqb (first_of (hand_tests b size)) 0) refl

    -- Let the opening not be refused.
    module _ (z : first_of (hand_tests b size) ≡ 0) (o : first_of (opening_tests b size) ≡ 0) where
      passed : (t2 : Bool) → eqb (needs_of b size) 0 ≡ t2
          → verdict tag_of b size ≡ cond t2 (first_of (10 unless not (walk_in b size).overruns ∷ behind)) 2
      passed t2 e =
          let hand = (none (hand_tests b size) refl).0 z in
          let test = (none (opening_tests b size) refl).0 o in
          rw (hand 0, e, test 0, test 1, test 2, test 3)

      needs-heads : needs_of b size ≡ missing (length b) (walked_from riff_sought (chunk_in b) (end_of b size) 12)
      needs-heads = asked-heads (eqb-true _ _ ((none (hand_tests b size) refl).0 z 1)) o

      pub head-missing : (missing (length b) (walked_from riff_sought (chunk_in b) (end_of b size) 12) ≡ 0 → ⊥)
          → found.Refused 2 ≡ header_by tag_of b size
      head-missing h =
          sym (ap (λ (n : ℕ). answered n (wave_in tag_of b size))
          (passed false (ne_eqb (needs_of b size) 0 (λ q. h (sym needs-heads ∙ q)))))

      pub walk-tells : missing (length b) (walked_from riff_sought (chunk_in b) (end_of b size) 12) ≡ 0
          → (w : Walked) (f : List ℕ) (t : ℕ) → w ≡ walk_in b size → f ≡ part_of b w.format.body w.format.size
          → t ≡ tag_of f w.format.size → found_of true (not w.overruns) t f w ≡ header_by tag_of b size
      walk-tells h w f t p q r =
          let body : f ≡ fmt_in b size = q ∙ ap (λ (v : Walked). part_of b v.format.body v.format.size) p in
          let tag : t ≡ tag_in tag_of b size = r
          ∙ rw body (ap (λ (v : Walked). tag_of (fmt_in b size) v.format.size) p) in
          rw (body, tag)
          (ap (λ (v : Walked). found_of true (not v.overruns) (tag_in tag_of b size) (fmt_in b size) v) p
          ∙ sym (ap (λ (n : ℕ). answered n (wave_in tag_of b size)) (passed true (eq-eqb (needs_of b size) 0
          (needs-heads ∙ h)))))
