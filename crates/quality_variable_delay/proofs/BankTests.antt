-- The tests of the bank as the code makes them, on the length that `bank_length` gives. That is 0 exactly if the bank's
-- rate is out of range, and then the lent length does not matter. Assumes nothing.
use Rattle.std.proofs.Common.{◌≡◌, ℕ, ◌*◌, ◌<◌, Bool, true, false, cond, not, ◌&&◌, eqb, refl, arith, ne_eqb}
use lib.Ieee.{Float}
use Rattle.ring.specs.Length.{settings_ok}
use Rattle.bank_choice.specs.Rates.{bank_ok, steps_of}
use Rattle.bank_choice.proofs.SetCounts.{least}
use Rattle.sinc_bank_f32.specs.Sets.{set_length, bank_length}
use Rattle.quality_fade.specs.Fade.{length_ok}
use Rattle.quality_variable_delay.specs.Reader.{verdict}
use Rattle.quality_variable_delay.specs.Bank.{due_of}
use Rattle.quality_variable_delay.specs.declared.QualityVariableDelayF32.{QualityVariableDelayF32}

off : (s n : Bool) → s && (n && false) ≡ false
off true true = refl
off true false = refl
off false n = refl

unbanked : (d : QualityVariableDelayF32) (len : ℕ) (x y rate : Float) (t u : Bool)
    → verdict false t d len x y rate ≡ verdict false u d len x y rate
unbanked d len x y rate t u = rw (off (settings_ok d.maximum d.margin) (length_ok d.crossfade_samples))

settled : (b : Bool) (m lent : ℕ) → 0 < m → (f : Bool → Bool → ℕ) → ((t u : Bool) → f false t ≡ f false u)
    → f (not (eqb (cond b m 0) 0)) (eqb lent (cond b m 0)) ≡ f b (eqb lent m)
settled true m lent l f still = rw (ne_eqb m 0 (λ z. omega arith))
settled false m lent l f still = still _ _

pub bank-due : (n lent : ℕ) (top : Float) (d : QualityVariableDelayF32) (len : ℕ) (x y rate : Float)
    → n ≡ bank_length top
    → verdict (not (eqb n 0)) (eqb lent n) d len x y rate ≡ due_of lent top d len x y rate
bank-due n lent top d len x y rate e =
    rw e (settled (bank_ok top) (steps_of top * set_length) lent (omega (arith, least top))
    (λ (t u : Bool). verdict t u d len x y rate) (unbanked d len x y rate))
