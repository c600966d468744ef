-- The tests 1 and 2 as the code makes them, on the length that `length_for` gives. That is 0 exactly if the settings
-- are out of range, and then test 2 does not count. Assumes nothing.
use mathlib.Core.Path.{◌≡◌, refl, sym, ◌∙◌}
use mathlib.Core.Bool.{Bool, true, false, not, cond, ◌&&◌, true≢false}
use Prim.Native.Nat.{ℕ, ◌^◌}
use native.Mathlib.Nat.{le_of_lt}
use native.Mathlib.Omega.{arith}
use borrow.Author.Tests.{ne_eqb, le-leb, ltb-true}
use lib.Dec.{eqb, leb, ltb}
use lib.IntN.{pos}
use lib.Ieee.{Float, nan, inf, fin, lt, eq, le}
use lib.Ieee.Scale.{finite}
use Rattle.answer.specs.Refusals.{lowest_of}
use Rattle.ring.specs.Length.{settings_ok, length_for}
use Rattle.ring.proofs.Lengths.{some}
use Rattle.variable_delay.specs.Reader.{verdict}
use Rattle.variable_delay.specs.Inner.{due_of}
use Rattle.variable_delay.specs.declared.VariableDelay.{VariableDelay}

pub settled : (maximum margin len n : ℕ) (f : Bool → Bool → ℕ) → ((a b : Bool) → f false a ≡ f false b)
    → n ≡ cond (settings_ok maximum margin) (length_for maximum margin) 0
    → f (not (eqb n 0)) (eqb len n) ≡ f (settings_ok maximum margin) (eqb len (length_for maximum margin))
settled maximum margin len n f still e = rw e (go (settings_ok maximum margin))
  where
    go : (s : Bool)
        → f (not (eqb (cond s (length_for maximum margin) 0) 0)) (eqb len (cond s (length_for maximum margin) 0))
        ≡ f s (eqb len (length_for maximum margin))
    go true = rw (ne_eqb (length_for maximum margin) 0 (λ z. omega (arith, some maximum margin)))
    go false = still _ _

never : (s : Bool) → s && false ≡ false
never true = refl
never false = refl

-- Likewise for a kernel's own settings: if they are out of range, the length of its table does not count.
pub unowned : (d : VariableDelay) (len : ℕ) (x y : Float) (a b : Bool)
    → verdict false a d len x y ≡ verdict false b d len x y
unowned d len x y a b = rw (never (settings_ok d.maximum d.margin))

-- The refusal, from the length that `length_for` gives.
pub due-is : (own lent : Bool) (d : VariableDelay) (len : ℕ) (x y : Float) {n : ℕ}
    → n ≡ cond (settings_ok d.maximum d.margin) (length_for d.maximum d.margin) 0
    → due_of n own lent len d.accepted x y ≡ verdict own lent d len x y
due-is own lent d len x y {n} e =
    settled d.maximum d.margin len n
    (λ (t u : Bool).
    lowest_of (t && own) (u && lent) (leb d.accepted (2 ^ 36)) (finite x) (finite y && le (fin false 0 (pos 0)) y)
    (le y (fin false 1 (pos 36))) true (ltb d.accepted (2 ^ 36)))
    (λ t u. refl) e

-- A delay from 0 to 2 ^ 36 is finite.
bounded : (y : Float)
    → (finite y && le (fin false 0 (pos 0)) y) && le y (fin false 1 (pos 36))
    ≡ le (fin false 0 (pos 0)) y && le y (fin false 1 (pos 36))
unfolding le lt eq
bounded nan = refl
bounded (inf true) = refl
bounded (inf false) = refl
bounded (fin s m e) = refl

pub delay-finite : (y : Float) → le (fin false 0 (pos 0)) y ≡ true → le y (fin false 1 (pos 36)) ≡ true
    → finite y ≡ true
delay-finite y a b = go (finite y) _ _ (bounded y) a b
  where
    go : (f p q : Bool) → (f && p) && q ≡ p && q → p ≡ true → q ≡ true → f ≡ true
    go true p q e a b = refl
    go false p q e a b = e ∙ rw (a, b)

-- There is no refusal if every test passes; the third follows from the last.
none_of : (p q t3 t4 t5 t6 t8 : Bool) → (t8 ≡ true → t3 ≡ true)
    → (p && q) && (t8 && (t4 && (t5 && t6))) ≡ eqb (lowest_of p q t3 t4 t5 t6 true t8) 0
none_of false q t3 t4 t5 t6 t8 h = refl
none_of true false t3 t4 t5 t6 t8 h = refl
none_of true true false t4 t5 t6 false h = refl
none_of true true false t4 t5 t6 true h = absurd (true≢false (sym (h refl)))
none_of true true true false t5 t6 false h = refl
none_of true true true false t5 t6 true h = refl
none_of true true true true false t6 false h = refl
none_of true true true true false t6 true h = refl
none_of true true true true true false false h = refl
none_of true true true true true false true h = refl
none_of true true true true true true false h = refl
none_of true true true true true true true h = refl

pub none-due : (n : ℕ) (own lent : Bool) (len k : ℕ) (x y : Float)
    → ((not (eqb n 0) && own) && (eqb len n && lent))
    && (ltb k (2 ^ 36) && (finite x && (le (fin false 0 (pos 0)) y && le y (fin false 1 (pos 36)))))
    ≡ eqb (due_of n own lent len k x y) 0
none-due n own lent len k x y =
    rw (← bounded y)
    (none_of (not (eqb n 0) && own) (eqb len n && lent) (leb k (2 ^ 36)) (finite x)
    (finite y && le (fin false 0 (pos 0)) y) (le y (fin false 1 (pos 36))) (ltb k (2 ^ 36))
    (λ h. le-leb k (2 ^ 36) (le_of_lt (ltb-true k (2 ^ 36) h))))
