-- The quality reader is orderly, as the laws of a stretch ask (W3c to W3h): a refused call changes nothing, an accepted
-- one keeps what 1 to 3 test in range, and behind these a call is refused by another number. Assumes nothing.
use mathlib.Core.Path.{◌≡◌, sym, ◌∙◌}
use mathlib.Core.Bool.{Bool, true, false, not, ◌&&◌}
use mathlib.Core.List.{List}
use Prim.Native.Nat.{ℕ, suc, ◌+◌, ◌*◌, ◌^◌, ◌<◌}
use native.Mathlib.Omega.{arith}
use borrow.Author.Tests.{le-leb}
use lib.Dec.{eqb, ltb}
use lib.ListN.{length, length-set}
use lib.Ieee.{Float, le, is_nan}
use lib.Ieee.Scale.{finite}
use Rattle.constants.specs.Numbers.{zero-f, limit, limit-f}
use Rattle.answer.specs.Refusals.{lowest_of}
use Rattle.answer.proofs.Cases.{number-f32-is}
use Rattle.bank_choice.specs.Rates.{bank_ok, steps_of}
use Rattle.sinc_bank_f32.specs.Sets.{set_length}
use Rattle.quality_mode.specs.declared.QualityMode.{QualityMode}
use Rattle.quality_fade.specs.Fade.{length_ok}
use Rattle.quality_fade.proofs.StaysInRange.{both}
use Rattle.returning_fade.specs.Rules.{place_ok}
use Rattle.returning_fade.proofs.StaysInRange.{step-valid, step-length}
use Rattle.quality_variable_delay.specs.State.{fade_part}
use Rattle.quality_variable_delay.specs.Reader.{state_after}
use Rattle.quality_variable_delay.specs.Bank.{due_of}
use Rattle.quality_variable_delay.specs.declared.QualityVariableDelayF32.{QualityVariableDelayF32}
use Rattle.quality_variable_delay.proofs.AcceptedCall.{Taken, taken, room}
use Rattle.stretch.specs.Stretch.{Called}
use Rattle.stretch.specs.Singles.{Orderly}
use Rattle.quality_stretch.specs.Reader.{call_of, quality}

-- What the tests behind 1 to 3 give is 0 or above 3.
late : (t4 t5 t6 t7 t8 : Bool) (k : ℕ) → k < 3 → lowest_of true true true t4 t5 t6 t7 t8 ≡ suc k → ⊥
late true true true true true k l e = omega arith
late true true true true false k l e = omega arith
late true true true false t8 k l e = omega arith
late true true false t7 t8 k l e = omega arith
late true false t6 t7 t8 k l e = omega arith
late false t5 t6 t7 t8 k l e = omega arith

module _ (sets : List Float) (max-rate : Float) (q : QualityMode) (rate : Float) where
  module _ (d : QualityVariableDelayF32) (ring : List Float) (x y : Float) where
    abbrev called : Called QualityVariableDelayF32
    called = call_of sets max-rate q rate d ring x y

    abbrev due : ℕ
    due = due_of (length sets) max-rate d (length ring) x y rate

    number_is : called.number ≡ due
    unfolding call_of
    number_is = number-f32-is due _

    refused : (k : ℕ) → due ≡ suc k → (called.state ≡ d) × (called.ring ≡ ring)
    unfolding call_of
    refused k v = (rw v, rw v)

    accepted : due ≡ 0 → (length called.ring ≡ length ring) × (called.state ≡ state_after 0 d q)
    unfolding call_of
    accepted v = (rw v (length-set ring _ x), rw v)

    module _ (v : due ≡ 0) where
      tests : Taken (bank_ok max-rate) (eqb (length sets) (steps_of max-rate * set_length)) d (length ring) x y
      tests = taken (bank_ok max-rate) (eqb (length sets) (steps_of max-rate * set_length)) d (length ring) x y rate v

      placed : place_ok (fade_part (state_after 0 d q)) ≡ true
      placed =
          (both (length_ok (state_after 0 d q).crossfade_samples) _
          (step-valid (fade_part d) q (rw (tests.fits, tests.placed)))).1

      pub keeps : (length called.ring ≡ length ring)
          × ((quality sets max-rate q rate).settings called.state ≡ (quality sets max-rate q rate).settings d)
          × ((quality sets max-rate q rate).lent called.state (length ring)
          ≡ (quality sets max-rate q rate).lent d (length ring))
          × ((quality sets max-rate q rate).fields called.state ≡ true)
      keeps =
          let a = accepted v in
          let w = room tests in (
            a.0,
            rw (a.1, step-length (fade_part d) q),
            rw a.1,
            rw (a.1, le-leb (d.accepted + 1) (2 ^ 36) (omega arith)) placed,
          )

  pub orderly : Orderly (quality sets max-rate q rate)
  orderly =
      record {
        still = λ d ring x y k e. refused d ring x y k (sym (number_is d ring x y) ∙ e);
        keeps = λ d ring x y e. keeps d ring x y (sym (number_is d ring x y) ∙ e);
        later =
            λ d ring x y k p q r l e.
            late (finite x) (finite y && le zero-f y) (le y limit-f) (not (is_nan rate)) (ltb d.accepted limit) k l
            (sym (rw (p, q, r)) ∙ sym (number_is d ring x y) ∙ e);
      }
