-- The answer of a reader of a lent table, for either width, by the cases of the refusal: its reading r if there is
-- none; otherwise zero, and an answer with the number alone. Assumes nothing.
use mathlib.Core.Path.{◌≡◌, sym, ◌∙◌, ap}
use mathlib.Core.Bool.{Bool, ◌&&◌, cond}
use Prim.Native.Nat.{ℕ}
use borrow.Author.Tests.{ne_eqb}
use lib.Dec.{eqb}
use lib.Ieee.{Float}
use Rattle.answer.specs.Answers.{zero-f}
use Rattle.ring.specs.Places.{position_ok}
use Rattle.sinc_settings.specs.Refusals.{table_verdict}
use Rattle.sinc_read.specs.Reading.{sample_verdict}
use Rattle.sinc_read.proofs.AcceptedReading.{same_test}

module _ (r : Float) (taps phases len : ℕ) (p : Float) where
  abbrev v : ℕ
  v = sample_verdict taps phases len p

  -- The value of `read_of` for either width.
  abbrev given : Float
  given = cond (eqb (table_verdict taps phases len) 0 && position_ok p) r zero-f

  pick : {b : Bool} → eqb v 0 ≡ b → cond b r zero-f ≡ given
  pick e = ap (λ (b : Bool). cond b r zero-f) (sym (same_test taps phases len p ∙ e))

  pub read_is : v ≡ 0 → r ≡ given
  read_is h = pick (ap (λ (n : ℕ). eqb n 0) h)

  pub not-read : (v ≡ 0 → ⊥) → zero-f ≡ given
  not-read h = pick (ne_eqb v 0 h)
