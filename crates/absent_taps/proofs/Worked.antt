-- W7. Worked examples, each counted by the definition, tap by tap. i is the newest sample's number, so the count is i +
-- 1; the position is i less the delay. Assumes nothing.
use mathlib.Core.Path.{◌≡◌, refl, ◌∙◌}
use mathlib.Core.Bool.{false, true}
use Prim.Native.Nat.{ℕ, ◌+◌}
use native.Mathlib.Omega.{arith}
use lib.IntN.{pos, negsuc}
use lib.Ieee.{fin}
use Rattle.integer_part.specs.Parts.{floor_of}
use Rattle.ring.specs.Length.{zeros}
use Rattle.absent_taps.specs.Absent.{absent_of, absent_from, absent_at}
use Rattle.absent_taps.proofs.AtOnce.{same, at_once}

-- 01's P2, with i = 0 and delay 1.5.
pub P2 : absent_at (zeros 8) 1 (fin true 3 (negsuc 0)) 4 ≡ absent_of 3 0 0
unfolding absent_from floor_of
P2 = refl

-- 01's P4, with i = 3 and delay 0.5.
pub P4 : absent_at (zeros 8) 4 (fin false 5 (negsuc 0)) 4 ≡ absent_of 0 1 0
unfolding absent_from floor_of
P4 = refl

-- 01's P5 and P6, with i = 8 and delays 7 and 8.
pub P5 : absent_at (zeros 8) 9 (fin false 1 (pos 0)) 4 ≡ absent_of 0 0 1
unfolding absent_from floor_of
P5 = refl

pub P6 : absent_at (zeros 8) 9 (fin false 0 (pos 0)) 4 ≡ absent_of 1 0 1
unfolding absent_from floor_of
P6 = refl

-- With i = 0 and a delay of 2^-1000 the integer part is -1, so the newest sample is the third tap.
pub smallest-delay : absent_at (zeros 8) 1 (fin true 1 (negsuc 999)) 4 ≡ absent_of 2 1 0
unfolding absent_from floor_of
smallest-delay = refl

-- With i = 0 and delay 2^36 all taps lie below 0, which holds at any distance.
pub largest-delay : absent_at (zeros 8) 1 (fin true 1 (pos 36)) 4 ≡ absent_of 4 0 0
unfolding absent_from floor_of
largest-delay = refl

-- 128 taps in a ring of 8 at delay 0, for i = 7, for i = 62, and from i = 63 on, where the numbers stay the same.
pub wide-7 : absent_at (zeros 8) 8 (fin false 7 (pos 0)) 128 ≡ absent_of 56 64 0
unfolding absent_from floor_of
wide-7 = refl

pub wide-62 : absent_at (zeros 8) 63 (fin false 31 (pos 1)) 128 ≡ absent_of 1 64 55
unfolding absent_from floor_of
wide-62 = refl

-- Here i is m + 63, so the first tap is m.
pub wide-63 : (m : ℕ) → absent_from (zeros 8) (m + 64) (pos m) 128 ≡ absent_of 0 64 56
wide-63 m = at_once (zeros 8) (m + 64) (pos m) 128 ∙ same (omega arith) (omega arith) (omega arith)
