-- `finite` by one subtraction and one test. A number less itself is zero and so not below zero; an infinity or a NaN
-- less itself is a NaN. Assumes nothing.
use mathlib.Core.Path.{◌≡◌, refl, sym}
use mathlib.Core.Bool.{Bool, true, false, not}
use Prim.Native.Nat.{ℕ, ◌*◌, ◌<◌}
use native.Mathlib.Nat.{le_refl, sub_self, mul-pos, zero-mul}
use borrow.Author.Tests.{le-ltb}
use lib.Dec.{lit<}
use lib.Ieee.{Float, nan, inf, fin, Format, binary32, binary64, up, down, round, sub, sum, le, of_bits}
use lib.Ieee.Fits.{down_pos}
use lib.Ieee.Scale.{finite, round_same}

zero_is : (f : Format) → le (of_bits f 0) (round f false 0 1) ≡ true
unfolding round le of_bits
zero_is binary32 = refl
zero_is binary64 = refl

nothing_left : (f : Format) (s : Bool) (a c : ℕ) → 0 < c → sum f s a (not s) a c ≡ round f false 0 1
unfolding sum
nothing_left f false a c C =
    rw (le-ltb a a (le_refl a), sub_self a) (round_same f false 0 c 0 1 C (lit< tt) (sym (zero-mul c)))
nothing_left f true a c C =
    rw (le-ltb a a (le_refl a), sub_self a) (round_same f false 0 c 0 1 C (lit< tt) (sym (zero-mul c)))

-- No comparison with a NaN holds.
unordered : (f : Format) → le (of_bits f 0) nan ≡ false
unfolding le of_bits
unordered binary32 = refl
unordered binary64 = refl

pub less-itself : (f : Format) (x : Float) → le (of_bits f 0) (sub f x x) ≡ finite x
unfolding sub
less-itself f nan = unordered f
less-itself f (inf true) = unordered f
less-itself f (inf false) = unordered f
less-itself f (fin s m e) =
    rw (nothing_left f s (m * up e * down e) (down e * down e) (mul-pos (down_pos e) (down_pos e))) (zero_is f)
