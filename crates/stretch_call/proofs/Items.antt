-- A single item from its verdict, and that every delay reader is orderly: its tests 1 to 3 stay in range, a refused
-- call changes nothing, and what is refused behind those tests has another number (W3c, W3e). Assumes nothing.
use mathlib.Core.Path.{◌≡◌, refl, sym, ap, ◌∙◌}
use mathlib.Core.Bool.{Bool, true, false, ◌&&◌}
use mathlib.Core.List.{List}
use Prim.Native.Nat.{ℕ, zero, suc, ◌+◌, ◌^◌, ◌<◌}
use native.Mathlib.Omega.{arith}
use borrow.Author.Tests.{le-leb}
use lib.Dec.{ltb}
use lib.ListN.{length, length-set}
use lib.Ieee.{Float, le}
use lib.Ieee.Scale.{finite}
use Rattle.constants.specs.Numbers.{zero-f, limit, limit-f}
use Rattle.answer.specs.Refusals.{lowest_of}
use Rattle.variable_delay.specs.Reader.{Reading, verdict, stored, position_of}
use Rattle.variable_delay.specs.declared.VariableDelay.{VariableDelay}
use Rattle.variable_delay.proofs.AcceptedCall.{taken}
use Rattle.stretch.specs.Stretch.{Called}
use Rattle.stretch.specs.Singles.{Orderly}
use Rattle.stretch_call.specs.Items.{item_of, delay_reader}
use Rattle.stretch_call.proofs.Tests.{rest-due}

abbrev pub with_count : VariableDelay → ℕ → VariableDelay
with_count d n = record { maximum = d.maximum; margin = d.margin; accepted = n }

module _ (read : Reading) (own lent : Bool) (d : VariableDelay) (ring : List Float) (x y : Float) where
  abbrev item : Called VariableDelay
  item = item_of read own lent d ring x y

  abbrev due : ℕ
  due = verdict own lent d (length ring) x y

  pub record Accepted : Type 0 where
    pub number : item.number ≡ 0
    pub state : item.state ≡ with_count d (d.accepted + 1)
    pub ring-left : item.ring ≡ stored d.accepted ring x
    pub sample : item.sample ≡ read (stored d.accepted ring x) (d.accepted + 1) (position_of d.accepted y)

  pub accepted : due ≡ 0 → Accepted
  unfolding item_of
  accepted e =
      record { number = rw e; state = rw e; ring-left = rw e; sample = rw e }

  pub record Refused (n : ℕ) : Type 0 where
    pub number : item.number ≡ suc n
    pub state : item.state ≡ d
    pub ring-left : item.ring ≡ ring

  pub refused : (n : ℕ) → due ≡ suc n → Refused n
  unfolding item_of
  refused n e = record { number = rw e; state = rw e; ring-left = rw e }

  pub number_is : item.number ≡ due
  number_is = by due refl
    where
      by : (v : ℕ) → due ≡ v → item.number ≡ due
      by zero e = (accepted e).number ∙ sym e
      by (suc n) e = (refused n e).number ∙ sym e

-- What the tests behind 1 to 3 give is 0 or above 3.
late : (t4 t5 t6 t8 : Bool) (k : ℕ) → k < 3 → lowest_of true true true t4 t5 t6 true t8 ≡ suc k → ⊥
late true true true true k l e = omega arith
late true true true false k l e = omega arith
late true true false t8 k l e = omega arith
late true false t6 t8 k l e = omega arith
late false t5 t6 t8 k l e = omega arith

pub orderly : (read : Reading) (own lent : Bool) → Orderly (delay_reader read own lent)
orderly read own lent =
    record {
      still =
          λ d ring x y k e.
          let r = refused read own lent d ring x y k (sym (number_is read own lent d ring x y) ∙ e) in
          (r.state, r.ring-left);
      keeps =
          λ d ring x y e.
          let v = sym (number_is read own lent d ring x y) ∙ e in
          let a = accepted read own lent d ring x y v in
          let room = (taken own lent d (length ring) x y v).room in (
            ap length a.ring-left ∙ simp length-set,
            rw a.state,
            rw a.state,
            rw a.state (le-leb (d.accepted + 1) (2 ^ 36) (omega arith)),
          );
      later =
          λ d ring x y k p q r l e.
          late (finite x) (finite y && le zero-f y) (le y limit-f) (ltb d.accepted limit) k l
          (sym (rest-due {own = own} {lent = lent} {d = d} {len = length ring}
          (record { settings = p; lengths = q; fields = r }) x y)
          ∙ sym (number_is read own lent d ring x y) ∙ e);
    }
