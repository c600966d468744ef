-- W13g. The tests of a residual's call that concern numbers alone. Definitions only.
use Rattle.std.specs.Prelude.{ℕ, ◌+◌, ◌-◌, ◌*◌, ◌^◌, Bool, true, ◌&&◌, List, [], ◌∷◌, leb, ℤ, pos, negsuc}
use Rattle.std.specs.Int.Signed.{le_z}
use Rattle.constants.specs.Numbers.{limit}

-- Test 1: every value of a stretch has 24 bits, so it lies from -2^23 to 2^23 - 1.
abbrev pub in24 : ℤ → Bool
in24 x = le_z (negsuc (2 ^ 23 - 1)) x && le_z x (pos (2 ^ 23 - 1))

unfoldable pub all24 : List ℤ → Bool
all24 [] = true
all24 (x ∷ xs) = in24 x && all24 xs

-- Test 3: the sum lies from largest squared to number × largest squared.
abbrev pub sum_ok : ℕ → ℕ → ℕ → Bool
sum_ok n l s = leb (l * l) s && leb s (n * (l * l))

-- Test 3: the number is at most 2^36, the largest difference at most 2^24 - 1, and the sum between these ends.
unfoldable pub numbers_ok : ℕ → ℕ → ℕ → Bool
numbers_ok n l s = leb n limit && (leb l (2 ^ 24 - 1) && sum_ok n l s)

-- Test 8: there are at most 2^36 samples in all.
abbrev pub room_for : ℕ → ℕ → Bool
room_for n more = leb (n + more) limit
