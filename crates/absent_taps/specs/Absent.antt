-- W7d. How many taps of a reading are absent, by kind: they are counted over ring's definition of a tap, one after the
-- other. Definitions only.
use Rattle.std.specs.Prelude.{ℕ, zero, suc, ◌+◌, ◌-◌, ◌/◌, List, ℤ, pos, ◌+ℤ◌, ◌-ℤ◌, Float}
use Rattle.ring.specs.Taps.{Tap, held, unwritten, ahead, overwritten, tap_at}
use Rattle.integer_part.specs.Parts.{floor_of}
use Rattle.absent_taps.specs.declared.Absent.{Absent}

abbrev pub absent_of : ℕ → ℕ → ℕ → Absent
absent_of u a o = record { unwritten = u; ahead = a; overwritten = o }

-- A refused call has no absent taps, so its numbers are three zeros (W7h).
abbrev pub none : Absent
none = absent_of 0 0 0

-- The numbers with one tap more. A held tap adds nothing.
abbrev pub counted : Tap → Absent → Absent
counted (held x) s = s
counted unwritten s = absent_of (s.unwritten + 1) s.ahead s.overwritten
counted ahead s = absent_of s.unwritten (s.ahead + 1) s.overwritten
counted overwritten s = absent_of s.unwritten s.ahead (s.overwritten + 1)

-- The numbers for the n taps from number z on.
unfoldable pub absent_from : List Float → ℕ → ℤ → ℕ → Absent
absent_from xs count z zero = none
absent_from xs count z (suc n) = counted (tap_at xs count (z +ℤ pos n)) (absent_from xs count z n)

-- The first of the n taps that a kernel reads at a position: n / 2 - 1 before its integer part.
abbrev pub first_tap : Float → ℕ → ℤ
first_tap p n = floor_of p -ℤ pos (n / 2 - 1)

-- The numbers for the n taps that a kernel reads at a position.
abbrev pub absent_at : List Float → ℕ → Float → ℕ → Absent
absent_at xs count p n = absent_from xs count (first_tap p n) n

-- The numbers of all readings of a call are added (W7g).
abbrev pub plus : Absent → Absent → Absent
plus s t = absent_of (s.unwritten + t.unwritten) (s.ahead + t.ahead) (s.overwritten + t.overwritten)

-- The number of held taps among the n from number z on.
abbrev pub one : Tap → ℕ
one (held x) = 1
one unwritten = 0
one ahead = 0
one overwritten = 0

unfoldable pub held_from : List Float → ℕ → ℤ → ℕ → ℕ
held_from xs count z zero = 0
held_from xs count z (suc n) = held_from xs count z n + one (tap_at xs count (z +ℤ pos n))
