-- A call depends on what each quality reads at its position alone, so that two ways of reading that agree there make
-- the same call; and a call over chosen sets is the call over a bank where the choice, the tests and the sets are the
-- bank's. Assumes nothing.
use Rattle.std.proofs.Common.{◌≡◌, ℕ, zero, suc, ◌+◌, ◌*◌, eqb, List, length, refl, eqb-true}
use lib.Ieee.{Float}
use Rattle.variable_delay.specs.Reader.{Reading, stored, position_of}
use Rattle.bank_choice.specs.Rates.{bank_ok, steps_of}
use Rattle.bank_choice.specs.Inner.{choice_of}
use Rattle.sinc_bank_f32.specs.Sets.{set_length}
use Rattle.bank_read.specs.Bank.{bank_at}
use Rattle.bank_read.proofs.BankReading.{bank-read}
use Rattle.quality_mode.specs.declared.QualityMode.{QualityMode}
use Rattle.returning_fade.specs.Step.{step_of}
use Rattle.quality_variable_delay.specs.State.{fade_part}
use Rattle.quality_variable_delay.specs.Reader.{processed_by}
use Rattle.quality_variable_delay.specs.Bank.{due_of, processed}
use Rattle.quality_variable_delay.specs.Chosen.{read_by, chosen_call}
use Rattle.quality_variable_delay.specs.declared.QualityVariableDelayF32.{QualityVariableDelayF32}
use Rattle.quality_variable_delay.proofs.AcceptedCall.{taken, position-in-range}

pub same-readings : (read other : QualityMode → Reading) (v : ℕ) (d : QualityVariableDelayF32) (xs : List Float)
    (x y : Float) (q : QualityMode)
    → (v ≡ 0 → (r : QualityMode)
    → read r (stored d.accepted xs x) (d.accepted + 1) (position_of d.accepted y)
    ≡ other r (stored d.accepted xs x) (d.accepted + 1) (position_of d.accepted y))
    → processed_by read v d xs x y q ≡ processed_by other v d xs x y q
same-readings read other zero d xs x y q h =
    let t = (step_of (fade_part d) q).turn in rw (h refl t.from, h refl t.to)
same-readings read other (suc k) d xs x y q h = refl

pub bank-call : (sets : List Float) (top : Float) (d : QualityVariableDelayF32) (xs : List Float) (x y : Float)
    (q : QualityMode) (rate : Float)
    → chosen_call (choice_of top rate) sets (bank_ok top) (eqb (length sets) (steps_of top * set_length)) d xs x y q
    rate
    ≡ processed sets top d xs x y q rate
bank-call sets top d xs x y q rate =
    same-readings (read_by (choice_of top rate) sets) (bank_at sets top rate)
    (due_of (length sets) top d (length xs) x y rate) d xs x y q
    (λ none r.
    let t = taken (bank_ok top) (eqb (length sets) (steps_of top * set_length)) d (length xs) x y rate none in
    bank-read top rate t.banked r sets (stored d.accepted xs x) (d.accepted + 1) (position_of d.accepted y)
    (eqb-true (length sets) (steps_of top * set_length) t.lasting)
    (position-in-range t))
