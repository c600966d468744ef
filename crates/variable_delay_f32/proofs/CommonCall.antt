-- If the tests of the fast path pass, nothing is refused: each of 01's tests is among them, or follows from them.
-- Assumes nothing.
use mathlib.Core.Path.{◌≡◌, refl, sym, ◌∙◌, ap}
use mathlib.Core.Bool.{Bool, true, false, cond, false≢true}
use Prim.Native.Nat.{ℕ, ◌^◌, ◌<◌}
use native.Mathlib.Omega.{arith}
use borrow.Author.Tests.{eqb-true, le-leb, lt-ltb}
use lib.Dec.{eqb}
use lib.IntN.{pos}
use lib.Ieee.{Float, fin, le}
use lib.Ieee.Scale.{finite}
use Rattle.ring.specs.Length.{settings_ok, length_for}
use Rattle.variable_delay.specs.Reader.{verdict}
use Rattle.variable_delay.proofs.Settings.{delay-finite}
use Rattle.variable_delay.specs.declared.VariableDelay.{VariableDelay}

-- A lent slice that is not empty and has the length n, which is m if b holds and otherwise 0.
pub filled : (b : Bool) (m len n : ℕ) → n ≡ cond b m 0 → (len ≡ 0 → ⊥) → eqb len n ≡ true
    → (b ≡ true) × (eqb len m ≡ true)
filled true m len n e some h = (refl, ap (eqb len) (sym e) ∙ h)
filled false m len n e some h = absurd (some (eqb-true len n h ∙ e))

pub none-due : (own lent : Bool) (d : VariableDelay) (len : ℕ) (x y : Float) (n : ℕ) → own ≡ true → lent ≡ true
    → d.accepted < 2 ^ 36
    → le (fin false 0 (pos 0)) y ≡ true → le y (fin false 1 (pos 36)) ≡ true → finite x ≡ true → (len ≡ 0 → ⊥)
    → n ≡ cond (settings_ok d.maximum d.margin) (length_for d.maximum d.margin) 0 → eqb len n ≡ true
    → verdict own lent d len x y ≡ 0
none-due own lent d len x y n o l room a b f some e h =
    let s = filled (settings_ok d.maximum d.margin) (length_for d.maximum d.margin) len n e some h in
    rw (
      s.0,
      o,
      s.1,
      l,
      le-leb d.accepted (2 ^ 36) (omega arith),
      f,
      delay-finite y a b,
      a,
      b,
      lt-ltb d.accepted (2 ^ 36) room,
    )

-- A test that failed leaves nothing to show.
pub led-away : {A : Type 0} → false ≡ true → A
led-away h = absurd (false≢true h)
