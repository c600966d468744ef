-- The numbers that the code computes from the counts before and after a call are the call's absent taps, whatever its
-- verdict. Of the ring only the length matters, and for an accepted call the choice of sets is the definition's.
-- Assumes nothing.
use Rattle.std.proofs.Common.{◌≡◌, ℕ, zero, suc, ◌+◌, ◌*◌, true, eqb, List, length, sym, refl, ap, ◌∙◌, arith}
use Rattle.std.proofs.Common.{length-set, eq-eqb, ne_eqb}
use lib.ListN.{length-replicate}
use lib.Ieee.{Float}
use Rattle.ring.specs.Length.{zeros}
use Rattle.variable_delay.specs.Reader.{stored, position_of}
use Rattle.absent_taps.specs.declared.Absent.{Absent}
use Rattle.absent_taps.proofs.Laws.{by_length}
use Rattle.told_call.specs.Told.{unless_refused}
use Rattle.absent_qualities.specs.Readings.{each_set, of_quality, of_turn}
use Rattle.bank_choice.specs.Rates.{bank_ok, steps_of}
use Rattle.bank_choice.specs.Choosing.{chosen_of}
use Rattle.bank_choice.specs.Inner.{choice_of}
use Rattle.bank_choice.specs.declared.Choice.{Choice}
use Rattle.sinc_bank_f32.specs.Sets.{set_length}
use Rattle.quality_mode.specs.declared.QualityMode.{QualityMode}
use Rattle.quality_mode.specs.declared.QualityMode.TheVariants.{Draft, Normal, Hq, Ultra}
use Rattle.quality_fade.specs.declared.Turn.{Turn}
use Rattle.returning_fade.specs.Step.{step_of}
use Rattle.quality_variable_delay.specs.State.{fade_part}
use Rattle.quality_variable_delay.specs.Reader.{state_after}
use Rattle.quality_variable_delay.specs.Bank.{due_of, processed}
use Rattle.quality_variable_delay.specs.declared.QualityVariableDelayF32.{QualityVariableDelayF32}
use Rattle.quality_variable_delay.specs.declared.ProcessedQ.{ProcessedQ}
use Rattle.quality_variable_delay.proofs.AcceptedCall.{taken}
use Rattle.told_quality.specs.Told.{with_absent, absent_of_call, told_of}
use Rattle.told_quality.specs.Inner.{counted_of}

module _ (c : Choice) (xs ys : List Float) (e : length xs ≡ length ys) (count : ℕ) (p : Float) where
  quality-by-length : (q : QualityMode) → of_quality c q xs count p ≡ of_quality c q ys count p
  quality-by-length Draft = by_length xs ys e count p 4
  quality-by-length Normal = ap (each_set c.which) (by_length xs ys e count p 80)
  quality-by-length Hq = ap (each_set c.which) (by_length xs ys e count p 96)
  quality-by-length Ultra = ap (each_set c.which) (by_length xs ys e count p 128)

  turn-by-length : (t : Turn) → of_turn c t xs count p ≡ of_turn c t ys count p
  turn-by-length t = rw (quality-by-length t.from, quality-by-length t.to)

module _ (max-rate : Float) (d : QualityVariableDelayF32) (xs : List Float) (x y : Float) (q : QualityMode)
    (rate : Float) where
  abbrev pub counted : ℕ → Absent
  counted v =
      counted_of (length xs) d.accepted (state_after v d q).accepted y (choice_of max-rate rate)
      (step_of (fade_part d) q).turn

  -- By any verdict that refuses a bank's rate out of range, wherever the sets stand.
  pub by-bank : (v : ℕ) → (v ≡ 0 → bank_ok max-rate ≡ true)
      → counted v ≡ unless_refused v (absent_of_call max-rate d xs x y q rate)
  by-bank zero h =
      rw (ne_eqb d.accepted (d.accepted + 1) (λ e. omega arith), h refl)
      (turn-by-length (chosen_of max-rate rate) (zeros (length xs)) (stored d.accepted xs x)
      (length-replicate (length xs) _ ∙ sym (length-set xs _ x)) (d.accepted + 1) (position_of d.accepted y)
      (step_of (fade_part d) q).turn)
  by-bank (suc k) h = rw (eq-eqb d.accepted d.accepted refl)

-- The reader's own verdict, where n values are lent as a bank.
pub in-range : (n : ℕ) (max-rate : Float) (d : QualityVariableDelayF32) (len : ℕ) (x y rate : Float)
    → due_of n max-rate d len x y rate ≡ 0 → bank_ok max-rate ≡ true
in-range n max-rate d len x y rate h =
    (taken (bank_ok max-rate) (eqb n (steps_of max-rate * set_length)) d len x y rate h).banked

pub by-verdict : (n : ℕ) (max-rate : Float) (d : QualityVariableDelayF32) (xs : List Float) (x y : Float)
    (q : QualityMode) (rate : Float) (v : ℕ) → due_of n max-rate d (length xs) x y rate ≡ v
    → counted max-rate d xs x y q rate v ≡ unless_refused v (absent_of_call max-rate d xs x y q rate)
by-verdict n max-rate d xs x y q rate v h =
    by-bank max-rate d xs x y q rate v (λ z. in-range n max-rate d (length xs) x y rate (h ∙ z))

pub told : (sets : List Float) (max-rate : Float) (d : QualityVariableDelayF32) (xs : List Float) (x y : Float)
    (q : QualityMode) (rate : Float) (p : ProcessedQ) (s : Absent) → p ≡ processed sets max-rate d xs x y q rate
    → s ≡ counted_of (length xs) d.accepted p.state.accepted y (choice_of max-rate rate)
    (step_of (fade_part d) q).turn → with_absent p s ≡ told_of sets max-rate d xs x y q rate
told sets max-rate d xs x y q rate p s e h =
    rw (h, e)
    (ap (with_absent (processed sets max-rate d xs x y q rate))
    (by-bank max-rate d xs x y q rate _ (in-range (length sets) max-rate d (length xs) x y rate)))
