-- Marks as numbers: what desks and modes add is small, and whoever holds a slot is counted in its mark. Assumes
-- nothing.
use mathlib.Core.Path.{◌≡◌, refl}
use mathlib.Core.Bool.{Bool, true, false, ◌&&◌, ◌||◌}
use Prim.Native.Nat.{ℕ, ◌≤◌}
use native.Mathlib.Nat.{mod-le}
use native.Mathlib.Omega.{arith}
use borrow.Author.Tests.{leb-true, eqb-true}
use lib.Dec.{eqb, leb}
use Rattle.bessel.specs.declared.Mode.{Mode}
use Rattle.bessel.specs.declared.Mode.TheVariants.{Ported, Full}
use Rattle.room_marks.specs.declared.Desk.{Desk}
use Rattle.room_marks.specs.declared.Desk.TheVariants.{One, Two}
use Rattle.room_marks.specs.Marks.{desk_number, mode_number, mark_ok, holders, held_by}

pub desk-most : (d : Desk) → desk_number d ≤ 2
desk-most One = omega arith
desk-most Two = omega arith

pub mode-most : (m : Mode) → mode_number m ≤ 4
mode-most Ported = omega arith
mode-most Full = omega arith

pub first_of : (a b : Bool) → a && b ≡ true → a ≡ true
first_of true b h = refl
first_of false b h = h

pub mark-most : (mark : ℕ) → mark_ok mark ≡ true → mark ≤ 7
mark-most mark h = leb-true mark 7 (first_of (leb mark 7) _ h)

one-or-three : (h : ℕ) (a : Bool) → eqb h 1 ≡ a → a || eqb h 3 ≡ true → 1 ≤ h
one-or-three h true e t = omega (arith, eqb-true h 1 e)
one-or-three h false e t = omega (arith, eqb-true h 3 t)

pub held_number : (d : Desk) (mark : ℕ) → held_by d mark ≡ true → desk_number d ≤ mark
held_number One mark h = omega (arith, one-or-three (holders mark) _ refl h, mod-le mark 4)
held_number Two mark h = omega (arith, leb-true 2 (holders mark) h, mod-le mark 4)
