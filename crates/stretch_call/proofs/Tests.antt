-- An item's tests 4 to 8: how the code makes them, and that they are what is left of the single call's. Assumes
-- nothing.
use mathlib.Core.Path.{◌≡◌, refl}
use mathlib.Core.Bool.{Bool, true, false, ◌&&◌}
use Prim.Native.Nat.{ℕ, ◌^◌, ◌<◌}
use native.Mathlib.Omega.{arith}
use borrow.Author.Tests.{leb-false, le-ltb}
use lib.Dec.{eqb, leb, ltb}
use lib.IntN.{pos}
use lib.Ieee.{Float, fin, le}
use lib.Ieee.Scale.{finite}
use Rattle.answer.specs.Refusals.{lowest_of}
use Rattle.ring.specs.Length.{settings_ok, length_for}
use Rattle.variable_delay.specs.Reader.{verdict}
use Rattle.variable_delay.specs.declared.VariableDelay.{VariableDelay}
use Rattle.variable_delay.proofs.Settings.{none-due}
use Rattle.stretch_call.specs.Items.{before_items, item_due}

-- A full state accepts nothing.
full : (t4 t5 t6 : Bool) → ◌≡◌ {A = Bool} false (eqb (lowest_of true true true t4 t5 t6 true false) 0)
full true true true = refl
full true true false = refl
full true false t6 = refl
full false t5 t6 = refl

-- The number is 0 exactly if the quick tests pass. It is variable_delay's law, at settings and a length that pass.
pub quick : (k : ℕ) (x y : Float)
    → ltb k (2 ^ 36) && (finite x && (le (fin false 0 (pos 0)) y && le y (fin false 1 (pos 36))))
    ≡ eqb (item_due k x y) 0
quick k x y = by (leb k (2 ^ 36)) refl
  where
    by : (t : Bool) → leb k (2 ^ 36) ≡ t
        → ltb k (2 ^ 36) && (finite x && (le (fin false 0 (pos 0)) y && le y (fin false 1 (pos 36))))
        ≡ eqb (item_due k x y) 0
    by true e = rw e at (none-due 1 true true 1 k x y)
    by false e =
        let l : 2 ^ 36 < k = leb-false k (2 ^ 36) e in
        rw (le-ltb k (2 ^ 36) (omega arith))
        (full (finite x) (finite y && le (fin false 0 (pos 0)) y) (le y (fin false 1 (pos 36))))

-- The tests 1 to 3 of the single call.
pub record Begun (own lent : Bool) (d : VariableDelay) (len : ℕ) : Type 0 where
  pub settings : settings_ok d.maximum d.margin && own ≡ true
  pub lengths : eqb len (length_for d.maximum d.margin) && lent ≡ true
  pub fields : leb d.accepted (2 ^ 36) ≡ true

-- If they have passed, the single call's number is the item's.
pub rest-due : {own lent : Bool} {d : VariableDelay} {len : ℕ} → Begun own lent d len → (x y : Float)
    → verdict own lent d len x y ≡ item_due d.accepted x y
rest-due b x y = rw (b.settings, b.lengths, b.fields)

never : (s : Bool) → s && false ≡ false
never true = refl
never false = refl

-- If a kernel's own settings are out of range, the length of its table does not count.
pub unowned : (d : VariableDelay) (len inputs delays out : ℕ) (a b : Bool)
    → before_items false a d len inputs delays out ≡ before_items false b d len inputs delays out
unowned d len inputs delays out a b = rw (never (settings_ok d.maximum d.margin))
