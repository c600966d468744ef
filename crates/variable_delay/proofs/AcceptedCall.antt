-- What follows if a call is accepted: every test passed, and the position is in range. Assumes nothing.
use mathlib.Core.Path.{◌≡◌, refl}
use mathlib.Core.Bool.{Bool, true, false, ◌&&◌}
use Prim.Native.Nat.{ℕ, ◌^◌, ◌<◌, ◌≤◌}
use native.Mathlib.Nat.{le_of_lt}
use native.Mathlib.Omega.{arith}
use lib.Dec.{T, eqb, leb, ltb, eqb→eq, leb→le, ltb→lt}
use lib.IntN.{pos}
use lib.Ieee.{Float, fin, binary64, sub, le, of_int}
use lib.Ieee.Bits.{is_true}
use lib.Ieee.Fits.{and_l, and_r, and_i}
use lib.Ieee.Scale.{finite}
use Rattle.answer.proofs.Passed.{passed}
use Rattle.ring.specs.Length.{need, settings_ok, length_for}
use Rattle.ring.specs.Places.{position_ok}
use Rattle.ring.proofs.Lengths.{some}
use Rattle.interval.proofs.Between.{Between, between, whole-between, difference-between}
use Rattle.variable_delay.specs.Reader.{verdict, position_of}
use Rattle.variable_delay.specs.declared.VariableDelay.{VariableDelay}

pub record Taken (own lent : Bool) (d : VariableDelay) (len : ℕ) (x y : Float) : Type 0 where
  pub settings : need d.maximum d.margin ≤ 2 ^ 24
  pub owned : T own
  pub long : len ≡ length_for d.maximum d.margin
  pub lasting : T lent
  pub room : d.accepted < 2 ^ 36
  pub input : T (finite x)
  pub delay : T (finite y)
  pub not-below : T (le (fin false 0 (pos 0)) y)
  pub not-above : T (le y (fin false 1 (pos 36)))

pub taken : (own lent : Bool) (d : VariableDelay) (len : ℕ) (x y : Float) → verdict own lent d len x y ≡ 0
    → Taken own lent d len x y
taken own lent d len x y h =
    let ranges = settings_ok d.maximum d.margin in
    let fills = eqb len (length_for d.maximum d.margin) in
    let zero = le (fin false 0 (pos 0)) y in
    let p =
    passed (ranges && own) (fills && lent) (leb d.accepted (2 ^ 36)) (finite x) (finite y && zero)
    (le y (fin false 1 (pos 36))) true (ltb d.accepted (2 ^ 36)) h in
    record {
      settings = leb→le _ _ (and_l ranges own p.p1);
      owned = and_r ranges own p.p1;
      long = eqb→eq _ _ (and_l fills lent p.p2);
      lasting = and_r fills lent p.p2;
      room = ltb→lt _ _ p.p8;
      input = p.p4;
      delay = and_l (finite y) zero p.p5;
      not-below = and_r (finite y) zero p.p5;
      not-above = p.p6;
    }

module _ {own lent : Bool} {d : VariableDelay} {len : ℕ} {x y : Float} (t : Taken own lent d len x y) where
  pub ring-some : 0 < len
  ring-some = rw t.long (some d.maximum d.margin)

  -- The position lies from 0 - 2^36 to 2^36 - 0; both ends are exact.
  pub position-in-range : position_ok (position_of d.accepted y) ≡ true
  unfolding of_int sub
  position-in-range =
      let place = position_of d.accepted y in
      let b : Between (fin true 1 (pos 36)) (fin false 1 (pos 36)) place =
      difference-between binary64
      (whole-between binary64 {k = 0} {m = 2 ^ 36} (omega arith) (le_of_lt t.room) refl refl tt tt)
      (between {low = fin false 0 (pos 0)} {high = fin false 1 (pos 36)} tt tt t.not-below t.not-above) refl
      refl tt tt in
      is_true (position_ok place)
      (and_i (le (fin true 1 (pos 36)) place) (le place (fin false 1 (pos 36))) b.above.order b.below.order)
