-- What `read` gives, by its tests; and that with a bank for a rate in range it is the bank's reading (T4, T5). Assumes
-- nothing.
use mathlib.Core.Path.{◌≡◌, refl, sym, ◌∙◌}
use mathlib.Core.Bool.{Bool, true, false, true≢false, not, ◌&&◌, cond}
use mathlib.Core.List.{List}
use Prim.Native.Nat.{ℕ, ◌+◌, ◌*◌, ◌≤◌}
use native.Mathlib.Omega.{arith}
use borrow.Author.Tests.{le-leb, eqb-true}
use lib.Dec.{eqb}
use lib.ListN.{length}
use lib.Ieee.{Float, is_nan}
use Rattle.answer.specs.Answers.{zero-f, answer_f32_of}
use Rattle.answer.specs.Refusals.{lowest_of}
use Rattle.ring.specs.Places.{position_ok}
use Rattle.cubic_farrow_f32.specs.Draft as draft
use Rattle.bank_choice.specs.Rates.{bank_ok, steps_of}
use Rattle.bank_choice.specs.Choosing.{chosen_of}
use Rattle.bank_choice.specs.Inner.{choice_of}
use Rattle.bank_choice.specs.declared.Choice.{Choice}
use Rattle.bank_choice.proofs.OwnRate.{safe-inside, tighter-inside}
use Rattle.sinc_bank_f32.specs.Sets.{bank_length}
use Rattle.quality_mode.specs.declared.QualityMode.{QualityMode}
use Rattle.quality_mode.specs.declared.QualityMode.TheVariants.{Draft, Normal, Hq, Ultra}
use Rattle.quality_mode.specs.Quality.{same_q}
use Rattle.bank_read.specs.Bank.{tables_at, chosen_at, bank_at, sample_verdict, sampled_of}
use Rattle.bank_read.specs.Inner.{sets_ok, held_ok, read_of}

module _ (c : Choice) (sets xs : List Float) (count : ℕ) (p : Float) where
  pub draft-read : (q : QualityMode) → same_q q Draft ≡ true → draft.read_of xs count p ≡ read_of c q sets xs count p
  unfolding chosen_at
  draft-read Draft h = refl
  draft-read Normal h = absurd (true≢false (sym h))
  draft-read Hq h = absurd (true≢false (sym h))
  draft-read Ultra h = absurd (true≢false (sym h))

  as-tables : (q : QualityMode) → same_q q Draft ≡ false
      → read_of c q sets xs count p ≡ cond (sets_ok c (length sets) && position_ok p) (tables_at c q sets xs count p)
      zero-f
  unfolding chosen_at
  as-tables Draft h = absurd (true≢false h)
  as-tables Normal h = refl
  as-tables Hq h = refl
  as-tables Ultra h = refl

  module _ (q : QualityMode) (h : same_q q Draft ≡ false) where
    pub tables-read : sets_ok c (length sets) ≡ true → position_ok p ≡ true
        → tables_at c q sets xs count p ≡ read_of c q sets xs count p
    tables-read s t = sym (as-tables q h ∙ rw (s, t))

    pub no_place : sets_ok c (length sets) ≡ true → position_ok p ≡ false → zero-f ≡ read_of c q sets xs count p
    no_place s t = sym (as-tables q h ∙ rw (s, t))

    pub no-sets : sets_ok c (length sets) ≡ false → zero-f ≡ read_of c q sets xs count p
    no-sets s = sym (as-tables q h ∙ rw s)

-- A bank has the sets that are chosen.
held : (c : Choice) (q : QualityMode) (n : ℕ) → sets_ok c n ≡ true → held_ok c q n ≡ true
held c Draft n h = refl
held c Normal n h = h
held c Hq n h = h
held c Ultra n h = h

module _ (top rate : Float) (ok : bank_ok top ≡ true) where
  sets-chosen : (n : ℕ) → n ≡ steps_of top * 1081648 → sets_ok (chosen_of top rate) n ≡ true
  sets-chosen n e =
      let c = chosen_of top rate in
      let s : (c.safe + 1) * 1081648 ≤ n = omega (arith, safe-inside top rate) in
      let t : (c.tighter + 1) * 1081648 ≤ n = omega (arith, tighter-inside top rate) in
      rw (le-leb _ _ s, le-leb _ _ t)

  pub bank-read : (q : QualityMode) (sets xs : List Float) (count : ℕ) (p : Float)
      → length sets ≡ steps_of top * 1081648
      → position_ok p ≡ true
      → read_of (choice_of top rate) q sets xs count p ≡ bank_at sets top rate q xs count p
  bank-read q sets xs count p l h = rw (ok, held (chosen_of top rate) q (length sets) (sets-chosen (length sets) l), h)

-- If nothing is refused, the reading is the bank's.
module _ (top rate : Float) (q : QualityMode) (sets xs : List Float) (count : ℕ) (p : Float) where
  pub answered : answer_f32_of (sample_verdict top rate (length sets) p)
      (read_of (choice_of top rate) q sets xs count p)
      ≡ sampled_of sets top rate q xs count p
  answered = go (bank_ok top) (position_ok p) (eqb (length sets) (bank_length top)) refl refl refl
    where
      go : (a b c : Bool) → bank_ok top ≡ a → position_ok p ≡ b → eqb (length sets) (bank_length top) ≡ c
          → let v = lowest_of (a && b) c true true true true (not (is_nan rate)) true in
          answer_f32_of v (read_of (choice_of top rate) q sets xs count p)
          ≡ answer_f32_of v (bank_at sets top rate q xs count p)
      go true true true ok h e =
          let whole : length sets ≡ steps_of top * 1081648 = rw ok at (eqb-true (length sets) (bank_length top) e) in
          rw (bank-read top rate ok q sets xs count p whole h)
      go true true false ok h e = refl
      go true false c ok h e = refl
      go false b c ok h e = refl
