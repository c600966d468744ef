-- If the tests of the fast path pass, nothing is refused: each of 01's tests is among them or follows from them.
-- Assumes nothing.
use Rattle.std.proofs.Common.{◌≡◌, ℕ, ◌*◌, ◌^◌, ◌<◌, Bool, true, false, not, eqb, pos, arith, lt-ltb, le-leb}
use lib.Ieee.{Float, fin, le, is_nan}
use lib.Ieee.Scale.{finite}
use Rattle.ring.specs.Length.{settings_ok, length_for}
use Rattle.variable_delay.proofs.Settings.{delay-finite}
use Rattle.bank_choice.specs.Rates.{bank_ok, steps_of}
use Rattle.sinc_bank_f32.specs.Sets.{set_length}
use Rattle.quality_fade.specs.Fade.{length_ok}
use Rattle.returning_fade.specs.Rules.{place_ok}
use Rattle.quality_variable_delay.specs.State.{fade_part}
use Rattle.quality_variable_delay.specs.Reader.{verdict}
use Rattle.quality_variable_delay.specs.Bank.{due_of}
use Rattle.quality_variable_delay.specs.declared.QualityVariableDelayF32.{QualityVariableDelayF32}

-- The bank's and its sets' tests are the caller's.
pub passes : (bank lent : Bool) (d : QualityVariableDelayF32) (len : ℕ) (x y rate : Float)
    → d.accepted < 2 ^ 36 → length_ok d.crossfade_samples ≡ true → place_ok (fade_part d) ≡ true
    → le (fin false 0 (pos 0)) y ≡ true → le y (fin false 1 (pos 36)) ≡ true → finite x ≡ true
    → not (is_nan rate) ≡ true
    → settings_ok d.maximum d.margin ≡ true → eqb len (length_for d.maximum d.margin) ≡ true
    → bank ≡ true → lent ≡ true
    → verdict bank lent d len x y rate ≡ 0
passes bank lent d len x y rate room long placed a b f number settings ring banked sets =
    rw (
      settings,
      long,
      banked,
      ring,
      sets,
      le-leb d.accepted (2 ^ 36) (omega arith),
      placed,
      f,
      delay-finite y a b,
      a,
      b,
      number,
      lt-ltb d.accepted (2 ^ 36) room,
    )

pub none-due : (lent : ℕ) (top : Float) (d : QualityVariableDelayF32) (len : ℕ) (x y rate : Float)
    → d.accepted < 2 ^ 36 → length_ok d.crossfade_samples ≡ true → place_ok (fade_part d) ≡ true
    → le (fin false 0 (pos 0)) y ≡ true → le y (fin false 1 (pos 36)) ≡ true → finite x ≡ true
    → not (is_nan rate) ≡ true
    → settings_ok d.maximum d.margin ≡ true → eqb len (length_for d.maximum d.margin) ≡ true
    → bank_ok top ≡ true → eqb lent (steps_of top * set_length) ≡ true
    → due_of lent top d len x y rate ≡ 0
none-due lent top d len x y rate = passes (bank_ok top) (eqb lent (steps_of top * set_length)) d len x y rate
