-- The tests 1 to 3 of a stretch over a lent table, from the one number that the table's own tests give. Assumes
-- nothing.
use mathlib.Core.Path.{◌≡◌, refl}
use mathlib.Core.Bool.{Bool, true, false, not, ◌&&◌}
use Prim.Native.Nat.{ℕ}
use lib.Dec.{eqb}
use Rattle.ring.specs.Length.{settings_ok}
use Rattle.sinc_settings.specs.Ranges.{taps_ok, phases_ok}
use Rattle.sinc_settings.specs.Refusals.{table_length, table_verdict}
use Rattle.sinc_settings.proofs.RefusalParts.{told-apart}
use Rattle.variable_delay.specs.declared.VariableDelay.{VariableDelay}
use Rattle.stretch_call.specs.Items.{before_items}

never : (s : Bool) → s && false ≡ false
never true = refl
never false = refl

pub table-tests : (taps phases length : ℕ) (d : VariableDelay) (len inputs delays out : ℕ) {due n : ℕ}
    → due ≡ table_verdict taps phases length
    → n ≡ before_items (not (eqb due 1)) (not (eqb due 2)) d len inputs delays out
    → n ≡ before_items (taps_ok taps && phases_ok phases) (eqb length (table_length taps phases)) d len inputs
    delays out
table-tests taps phases length d len inputs delays out e f =
    rw (f) (told-apart (taps_ok taps && phases_ok phases) (eqb length (table_length taps phases))
    (λ (own lent : Bool). before_items own lent d len inputs delays out)
    (λ a b. rw (never (settings_ok d.maximum d.margin))) e)
