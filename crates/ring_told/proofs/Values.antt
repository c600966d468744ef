-- W7a, W7b. What `ring::tap` and `ring::tap_f32` answer is the value of the tap's case: the three cases that are not
-- held count as zero. Assumes nothing.
use mathlib.Core.Path.{◌≡◌, refl}
use mathlib.Core.List.{List}
use Prim.Native.Nat.{ℕ}
use lib.IntN.{ℤ}
use lib.Ieee.{Float}
use Rattle.ring.specs.Taps as ring
use Rattle.ring.specs.Taps.{Tap, held, unwritten, ahead, overwritten, tap_at, tap_of}
use Rattle.ring_told.specs.Told.{told_of, told_f32_of, value_of, value_f32_of}

pub value-is : (t : Tap) → value_of (told_of t) ≡ ring.value_of t
value-is (held x) = refl
value-is unwritten = refl
value-is ahead = refl
value-is overwritten = refl

pub value-f32-is : (t : Tap) → value_f32_of (told_f32_of t) ≡ ring.value_of t
value-f32-is (held x) = refl
value-f32-is unwritten = refl
value-f32-is ahead = refl
value-f32-is overwritten = refl

-- This holds for every ring, count and index.
pub tap-is-value : (xs : List Float) (count : ℕ) (i : ℤ) → tap_of xs count i ≡ value_of (told_of (tap_at xs count i))
tap-is-value xs count i = rw value-is

pub tap-f32-is-value : (xs : List Float) (count : ℕ) (i : ℤ)
    → tap_of xs count i ≡ value_f32_of (told_f32_of (tap_at xs count i))
tap-f32-is-value xs count i = rw value-f32-is
