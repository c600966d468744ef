-- W4. What a slot's mark says: who holds the slot, and in which mode its set was built. It is 0 for a free slot,
-- otherwise 1, 2 or 3 if desk one, desk two or both hold it, and 4 more in the full mode. Definitions only.
use Rattle.std.specs.Prelude.{ℕ, zero, suc, ◌+◌, ◌-◌, ◌%◌, Bool, not, cond, ◌&&◌, ◌||◌, eqb, leb, ltb}
use Rattle.bessel.specs.declared.Mode.{Mode}
use Rattle.bessel.specs.declared.Mode.TheVariants.{Ported, Full}
use Rattle.room_marks.specs.declared.Desk.{Desk}
use Rattle.room_marks.specs.declared.Desk.TheVariants.{One, Two}

-- A desk's number, which is what it adds to a mark.
abbrev pub desk_number : Desk → ℕ
desk_number One = 1
desk_number Two = 2

abbrev pub other_desk : Desk → Desk
other_desk One = Two
other_desk Two = One

-- The desk with a number, for callers that can only pass numbers. Any number but 1 and 2 is an argument out of its
-- range and refused by 1.
abbrev pub desk_of : ℕ → Desk
desk_of zero = Two
desk_of (suc zero) = One
desk_of (suc (suc k)) = Two

abbrev pub known_desk : ℕ → Bool
known_desk number = eqb number 1 || eqb number 2

-- What a mode adds to a mark.
abbrev pub mode_number : Mode → ℕ
mode_number Ported = 0
mode_number Full = 4

-- W4j. A mark of 4, or above 7, says nothing.
abbrev pub mark_ok : ℕ → Bool
mark_ok mark = leb mark 7 && not (eqb mark 4)

abbrev pub is_free : ℕ → Bool
is_free mark = eqb mark 0

abbrev pub holders : ℕ → ℕ
holders mark = mark % 4

abbrev pub held_by : Desk → ℕ → Bool
held_by One mark = eqb (holders mark) 1 || eqb (holders mark) 3
held_by Two mark = leb 2 (holders mark)

abbrev pub in_mode : Mode → ℕ → Bool
in_mode Ported mark = ltb mark 4
in_mode Full mark = leb 4 mark

abbrev pub mode_in : ℕ → Mode
mode_in mark = cond (ltb mark 4) Ported Full

-- ---- what a mark becomes

-- The mark of a set that a desk has built.
abbrev pub built_by : Desk → Mode → ℕ
built_by desk mode = desk_number desk + mode_number mode

-- W4b, W4e. The mark of a set that a desk shares: the desk is added, unless it holds the set already.
abbrev pub shared_by : Desk → ℕ → ℕ
shared_by desk mark = cond (held_by desk mark) mark (mark + desk_number desk)

-- W4d. The mark of a set that a desk gives up: free, unless the other desk still holds the set.
abbrev pub left_by : Desk → ℕ → ℕ
left_by desk mark = cond (held_by (other_desk desk) mark) (mark - desk_number desk) 0
