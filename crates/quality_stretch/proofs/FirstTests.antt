-- The tests 1 to 3 as the code makes them, on the lengths that `length_for` and `bank_length` give. Each is 0 exactly
-- if its settings are out of range, and then no length counts. Assumes nothing.
use mathlib.Core.Path.{◌≡◌, refl, ◌∙◌}
use mathlib.Core.Bool.{Bool, true, false, not, cond, ◌&&◌}
use Prim.Native.Nat.{ℕ, ◌*◌, ◌^◌, ◌<◌}
use native.Mathlib.Omega.{arith}
use borrow.Author.Tests.{ne_eqb}
use lib.Dec.{eqb, leb}
use lib.Ieee.{Float}
use Rattle.answer.specs.Refusals.{lowest_of}
use Rattle.ring.specs.Length.{settings_ok, length_for}
use Rattle.variable_delay.proofs.Settings as ring-tests
use Rattle.bank_choice.specs.Rates.{bank_ok, steps_of}
use Rattle.bank_choice.proofs.SetCounts.{least}
use Rattle.sinc_bank_f32.specs.Sets.{set_length, bank_length}
use Rattle.quality_fade.specs.Fade.{length_ok}
use Rattle.returning_fade.specs.Rules.{place_ok}
use Rattle.quality_variable_delay.specs.State.{fade_part}
use Rattle.quality_variable_delay.specs.declared.QualityVariableDelayF32.{QualityVariableDelayF32}
use Rattle.quality_stretch.specs.Inner.{first_due}

off : (s n : Bool) → s && (n && false) ≡ false
off true true = refl
off true false = refl
off false n = refl

settled : (b : Bool) (m lent : ℕ) → 0 < m → (f : Bool → Bool → ℕ) → ((t u : Bool) → f false t ≡ f false u)
    → f (not (eqb (cond b m 0) 0)) (eqb lent (cond b m 0)) ≡ f b (eqb lent m)
settled true m lent l f still = rw (ne_eqb m 0 (λ z. omega arith))
settled false m lent l f still = still _ _

module _ (lent : ℕ) (top : Float) (d : QualityVariableDelayF32) (len inputs delays out : ℕ) where
  abbrev fit : Bool
  fit = length_ok d.crossfade_samples

  abbrev same : Bool
  same = eqb delays inputs && eqb out inputs

  abbrev fields : Bool
  fields = leb d.accepted (2 ^ 36) && place_ok (fade_part d)

  pub first-due : {needed bank : ℕ}
      → needed ≡ cond (settings_ok d.maximum d.margin) (length_for d.maximum d.margin) 0
      → bank ≡ bank_length top
      → lowest_of (not (eqb needed 0) && (fit && not (eqb bank 0))) ((eqb len needed && eqb lent bank) && same) fields
      true true true true true
      ≡ first_due lent top d len inputs delays out
  first-due {needed} {bank} e b =
      rw b
      (settled (bank_ok top) (steps_of top * set_length) lent (omega (arith, least top))
      (λ (t u : Bool).
      lowest_of (not (eqb needed 0) && (fit && t)) ((eqb len needed && u) && same) fields true true true true true)
      (λ t u. rw (off (not (eqb needed 0)) fit)))
      ∙ ring-tests.settled d.maximum d.margin len needed
      (λ (t u : Bool).
      lowest_of (t && (fit && bank_ok top)) ((u && eqb lent (steps_of top * set_length)) && same) fields true true true
      true
      true)
      (λ t u. refl) e
