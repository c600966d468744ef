-- A call under the premises of Demand 3 is accepted, because its settings, ring, count, input and delay are in range.
-- Assumes nothing.
use mathlib.Core.Path.{◌≡◌}
use mathlib.Core.Bool.{Bool, true, false, ◌&&◌}
use Prim.Native.Nat.{ℕ, ◌^◌, ◌≤◌, ◌<◌}
use native.Mathlib.Nat.{le_of_lt, mul-le-mul_right}
use native.Mathlib.Omega.{arith}
use lib.Dec.{T, eqb, leb, ltb, le→leb, lt→ltb}
use lib.IntN.{pos}
use lib.Ieee.{Float, fin, le}
use lib.Ieee.Bits.{is_true}
use lib.Ieee.Fits.{and_i, eq→eqb}
use lib.Ieee.Scale.{finite}
use Rattle.rounding_error.specs.Value.{val}
use Rattle.rounding_error.proofs.Compare.{side, le_is}
use Rattle.answer.specs.Refusals.{lowest_of}
use Rattle.ring.specs.Length.{need, settings_ok, length_for}
use Rattle.variable_delay.specs.Reader.{verdict}
use Rattle.variable_delay.specs.declared.VariableDelay.{VariableDelay}
use Rattle.cubic_bound.specs.Desk.{WholeDelay}

none-due : (t1 t2 t3 t4 t5 t6 t7 t8 : Bool) → T t1 → T t2 → T t3 → T t4 → T t5 → T t6 → T t7 → T t8
    → lowest_of t1 t2 t3 t4 t5 t6 t7 t8 ≡ 0
none-due t1 t2 t3 t4 t5 t6 t7 t8 h1 h2 h3 h4 h5 h6 h7 h8 =
    rw (
      is_true t1 h1,
      is_true t2 h2,
      is_true t3 h3,
      is_true t4 h4,
      is_true t5 h5,
      is_true t6 h6,
      is_true t7 h7,
      is_true t8 h8,
    )

ordered : (x y : Float) → T (finite x) → T (finite y) → side (val x) (val y) ≤ side (val y) (val x) → T (le x y)
ordered x y h k l = rw (le_is x y h k) (le→leb _ _ l)

module _ {y : Float} {d : ℕ} (w : WholeDelay y d) where
  not-below : T (le (fin false 0 (pos 0)) y)
  not-below = ordered (fin false 0 (pos 0)) y tt w.is.real (omega (arith, w.is.same.cross))

  not-above : T (le y (fin false 1 (pos 36)))
  not-above =
      ordered y (fin false 1 (pos 36)) w.is.real tt
      (omega (arith, w.is.same.cross, mul-le-mul_right (val y).d w.small))

  pub accepted : (state : VariableDelay) (len : ℕ) (x : Float) → need state.maximum state.margin ≤ 2 ^ 24
      → len ≡ length_for state.maximum state.margin → state.accepted < 2 ^ 36 → T (finite x)
      → verdict true true state len x y ≡ 0
  accepted state len x s l n f =
      none-due (settings_ok state.maximum state.margin && true)
      (eqb len (length_for state.maximum state.margin) && true) (leb state.accepted (2 ^ 36)) (finite x)
      (finite y && le (fin false 0 (pos 0)) y) (le y (fin false 1 (pos 36))) true (ltb state.accepted (2 ^ 36))
      (and_i (settings_ok state.maximum state.margin) true (le→leb _ _ s) tt)
      (and_i (eqb len (length_for state.maximum state.margin)) true (eq→eqb l) tt)
      (le→leb _ _ (le_of_lt n)) f (and_i (finite y) (le (fin false 0 (pos 0)) y) w.is.real not-below) not-above tt
      (lt→ltb _ _ n)
