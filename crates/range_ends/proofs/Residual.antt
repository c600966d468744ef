-- W13. The residual at the ends of its ranges, and the order of 1, 2, 3 and 8, by computing. Assumes nothing.
use mathlib.Core.Path.{◌≡◌, refl}
use mathlib.Core.List.{[], ◌∷◌, map}
use Prim.Native.Nat.{ℕ, ◌+◌, ◌-◌, ◌*◌, ◌^◌}
use lib.IntN.{ℤ, pos}
use Rattle.std.specs.Prelude.{Option, Some, None}
use Rattle.residual.specs.Report.{empty_report}
use Rattle.range_ends.specs.Reports.{reported, compared, left, carried, silence, two, ends24, placed}

-- N9. Each call has one fault fewer than the one above it: a value, the lengths, the carried report, its number.
pub order : compared (reported (2 ^ 36 + 1) 0 (Some 0) 0) (pos (2 ^ 23) ∷ []) []
    ∷ compared (reported (2 ^ 36 + 1) 0 (Some 0) 0) silence []
    ∷ compared (reported (2 ^ 36 + 1) 0 (Some 0) 0) silence silence
    ∷ compared (reported (2 ^ 36) 0 (Some 0) 0) silence silence
    ∷ compared (reported (2 ^ 36 - 1) 0 (Some 0) 0) silence silence
    ∷ []
    ≡ 1 ∷ 2 ∷ 3 ∷ 8 ∷ 0 ∷ []
unfolding compared
order = refl

-- 1: a 24-bit value is from -2^23 to 2^23 - 1, on either side. Each end, and the number next beyond it.
pub values : map (λ (x : ℤ). compared empty_report (x ∷ []) silence) ends24 ≡ 0 ∷ 1 ∷ 0 ∷ 1 ∷ []
unfolding compared
values = refl

pub other-values : map (λ (x : ℤ). compared empty_report silence (x ∷ [])) ends24 ≡ 0 ∷ 1 ∷ 0 ∷ 1 ∷ []
unfolding compared
other-values = refl

-- 2: lengths that differ; 0 is a length too.
pub lengths : compared empty_report silence [] ∷ compared empty_report [] silence
    ∷ compared empty_report silence silence
    ∷ compared empty_report [] [] ∷ []
    ≡ 2 ∷ 2 ∷ 0 ∷ 0 ∷ []
unfolding compared
lengths = refl

-- 3: the number is at most 2^36, the largest difference at most 2^24 - 1.
pub numbers : map (λ (n : ℕ). carried n 0 (Some 0) 0) (1 ∷ (2 ^ 36) ∷ (2 ^ 36 + 1) ∷ (2 ^ 64 - 1) ∷ [])
    ≡ 0 ∷ 0 ∷ 3 ∷ 3 ∷ []
unfolding compared
numbers = refl

pub largest : map (λ (l : ℕ). carried 1 l (Some 0) (l * l)) (0 ∷ (2 ^ 24 - 1) ∷ (2 ^ 24) ∷ (2 ^ 32 - 1) ∷ [])
    ≡ 0 ∷ 0 ∷ 3 ∷ 3 ∷ []
unfolding compared
largest = refl

-- 3: an empty report has no place, any other one below its number.
pub places-empty : map (λ (p : Option ℕ). carried 0 0 p 0) (None ∷ Some 0 ∷ []) ≡ 0 ∷ 3 ∷ []
unfolding compared
places-empty = refl

pub places : map (λ (p : Option ℕ). carried 5 0 p 0) (None ∷ Some 0 ∷ Some 4 ∷ Some 5 ∷ []) ≡ 3 ∷ 0 ∷ 0 ∷ 3 ∷ []
unfolding compared
places = refl

-- At the C boundary 0 says that there is no place and 1 that there is one; another number is refused.
pub flags : placed 0 0 9 ∷ placed 0 1 0 ∷ placed 5 0 0 ∷ placed 5 1 4 ∷ placed 5 1 5 ∷ placed 5 2 4 ∷ []
    ≡ 0 ∷ 3 ∷ 3 ∷ 0 ∷ 3 ∷ 3 ∷ []
unfolding placed
flags = refl

-- 3: the sum is from the largest squared to number × largest squared, for a small report, for the largest of all, whose
-- sum is above 2^64, and for an empty one.
pub sums : map (carried 5 3 (Some 4)) (8 ∷ 9 ∷ 45 ∷ 46 ∷ []) ≡ 3 ∷ 0 ∷ 0 ∷ 3 ∷ []
unfolding compared
sums = refl

pub largest-sums : map (carried (2 ^ 36) (2 ^ 24 - 1) (Some 0)) (((2 ^ 24 - 1) ^ 2 - 1) ∷ ((2 ^ 24 - 1) ^ 2)
    ∷ (2 ^ 36 * (2 ^ 24 - 1) ^ 2) ∷ (2 ^ 36 * (2 ^ 24 - 1) ^ 2 + 1) ∷ [])
    ≡ 3 ∷ 0 ∷ 0 ∷ 3 ∷ []
unfolding compared
largest-sums = refl

pub empty-sums : map (carried 0 0 None) (0 ∷ 1 ∷ (2 ^ 64) ∷ []) ≡ 0 ∷ 3 ∷ 3 ∷ []
unfolding compared
empty-sums = refl

-- An empty report with a largest difference of 1 has no sum that is in range.
pub empty-largest : map (carried 0 1 None) (0 ∷ 1 ∷ []) ≡ 3 ∷ 3 ∷ []
unfolding compared
empty-largest = refl

-- 8: there are at most 2^36 samples in all.
pub past : map (λ (n : ℕ). compared (reported n 0 (Some 0) 0) silence silence) (1 ∷ (2 ^ 36 - 1) ∷ (2 ^ 36) ∷ [])
    ≡ 0 ∷ 0 ∷ 8 ∷ []
unfolding compared
past = refl

pub past-by-two : map (λ (n : ℕ). compared (reported n 0 (Some 0) 0) two two) ((2 ^ 36 - 2) ∷ (2 ^ 36 - 1) ∷ [])
    ≡ 0 ∷ 8 ∷ []
unfolding compared
past-by-two = refl

-- W13c. The place counts from the first sample of all calls: a difference of 4 above a largest of 3 gets the next
-- place, and one of 3 leaves the first.
pub place-over-calls : left (reported 5 3 (Some 2) 9) (pos 0 ∷ pos 4 ∷ []) two ≡ reported 7 4 (Some 6) 25
unfolding left
place-over-calls = refl

pub first-place : left (reported 5 3 (Some 2) 9) (pos 0 ∷ pos 3 ∷ []) two ≡ reported 7 3 (Some 2) 18
unfolding left
first-place = refl

-- The first sample of all has a place, even if its difference is 0.
pub first-of-all : left empty_report silence silence ≡ reported 1 0 (Some 0) 0
unfolding left
first-of-all = refl

-- W13d. The low half wraps around, and one is carried into the high half.
pub halves : left (reported (2 ^ 20) (2 ^ 24 - 1) (Some 0) (2 ^ 64 - 1)) (pos 1 ∷ []) silence
    ≡ record { number = 2 ^ 20 + 1; largest = 2 ^ 24 - 1; place = Some 0; high = 1; low = 0 }
unfolding left
halves = refl

-- W13h. A refused call leaves the report as it was.
pub unchanged : left (reported 5 3 (Some 2) 9) (pos (2 ^ 23) ∷ []) silence ≡ reported 5 3 (Some 2) 9
unfolding left
unchanged = refl
