-- A reader's call, from what `accept` returned: it is refused and the state stays as it was, or it reads behind the
-- stored sample. The laws are over the kernel's reading, over the record `made` of a state and an answer, and over the
-- answer of a number and a sample, in which the sample of a refused call must not show. So each width and each kernel
-- can cite them. Assumes nothing.
use mathlib.Core.Path.{◌≡◌, sym, ◌∙◌, ap}
use mathlib.Core.Bool.{Bool, true, false}
use mathlib.Core.List.{List}
use Prim.Native.Nat.{ℕ, zero, suc, ◌+◌}
use lib.Ieee.Bits.{is_true}
use lib.ListN.{length}
use lib.Ieee.{Float}
use Rattle.ring.specs.Places.{position_ok}
use Rattle.variable_delay.specs.Reader.{Reading, verdict, stored, position_of, state_after, ring_after}
use Rattle.variable_delay.specs.Inner.{accepted_of}
use Rattle.variable_delay.proofs.Settings.{unowned}
use Rattle.variable_delay.proofs.AcceptedCall.{Taken, taken, position-in-range}
use Rattle.variable_delay.specs.declared.VariableDelay.{VariableDelay}
use Rattle.variable_delay.specs.declared.Accepted.{Accepted}

refusal_is : (v : ℕ) (d : VariableDelay) (y : Float) {a : Accepted} → a ≡ accepted_of v d y → a.refusal ≡ v
refusal_is zero d y e = rw e
refusal_is (suc k) d y e = rw e

module _ {A P : Type 0} (made : VariableDelay → A → P) (answered : ℕ → Float → A)
    (silent : (k : ℕ) (z w : Float) → answered (suc k) z ≡ answered (suc k) w) where
  -- The record of a call, by the state and the answer for a refusal number.
  abbrev pub called_by : Reading → ℕ → VariableDelay → List Float → Float → Float → P
  called_by read v d xs x y =
      made (state_after v d)
      (answered v (read (stored d.accepted xs x) (d.accepted + 1) (position_of d.accepted y)))

  refused : (read : Reading) (v : ℕ) (d : VariableDelay) (xs : List Float) (x y z : Float) {a : Accepted}
      → a ≡ accepted_of v d y → (a.refusal ≡ 0 → ⊥)
      → made d (answered a.refusal z) ≡ called_by read v d xs x y
  refused read zero d xs x y z e h = absurd (h (refusal_is zero d y e))
  refused read (suc k) d xs x y z e h = rw (refusal_is (suc k) d y e) (ap (made d) (silent k z _))

  -- `accept` was handed p and q, which count like the tests of the kernel's own settings and of its lent table, and
  -- gave a; then the ring is ys.
  module _ (read : Reading) (own lent : Bool) (d : VariableDelay) (xs : List Float) (x y : Float) {p q : Bool}
      {a : Accepted} {ys : List Float}
      (told : (f : Bool → Bool → ℕ) → ((t u : Bool) → f false t ≡ f false u) → f p q ≡ f own lent)
      (e : (a ≡ accepted_of (verdict p q d (length xs) x y) d y)
      × (ys ≡ ring_after (verdict p q d (length xs) x y) d xs x)) where
    due : verdict p q d (length xs) x y ≡ verdict own lent d (length xs) x y
    due = told (λ (t u : Bool). verdict t u d (length xs) x y) (unowned d (length xs) x y)

    handed : a ≡ accepted_of (verdict own lent d (length xs) x y) d y
    handed = e.0 ∙ ap (λ (v : ℕ). accepted_of v d y) due

    left : ys ≡ ring_after (verdict own lent d (length xs) x y) d xs x
    left = e.1 ∙ ap (λ (v : ℕ). ring_after v d xs x) due

    pub refused-call : (a.refusal ≡ 0 → ⊥) → {r : A} (z : Float) → r ≡ answered a.refusal z
        → (made d r ≡ called_by read (verdict own lent d (length xs) x y) d xs x y)
        × (ys ≡ ring_after (verdict own lent d (length xs) x y) d xs x)
    refused-call some z r = (rw r (refused read (verdict own lent d (length xs) x y) d xs x y z handed some), left)

    module _ (none : a.refusal ≡ 0) where
      verdict-none : verdict own lent d (length xs) x y ≡ 0
      verdict-none = sym (refusal_is (verdict own lent d (length xs) x y) d y handed) ∙ none

      passed : Taken own lent d (length xs) x y
      passed = taken own lent d (length xs) x y verdict-none

      accepted-is : a ≡ accepted_of 0 d y
      accepted-is = handed ∙ ap (λ (v : ℕ). accepted_of v d y) verdict-none

      -- The kernel has to read as defined only if its settings, its table and the position are in range.
      pub taken-call : {r : A} {z : Float}
          → (own ≡ true → lent ≡ true → position_ok a.position ≡ true → z ≡ read ys a.count a.position)
          → r ≡ answered 0 z
          → (made (record { maximum = d.maximum; margin = d.margin; accepted = a.count }) r
          ≡ called_by read (verdict own lent d (length xs) x y) d xs x y)
          × (ys ≡ ring_after (verdict own lent d (length xs) x y) d xs x)
      taken-call reads r =
          let z =
          reads (is_true own passed.owned) (is_true lent passed.lasting)
          (rw accepted-is (position-in-range passed)) in
          (rw (r, z, left, verdict-none, accepted-is), left)
