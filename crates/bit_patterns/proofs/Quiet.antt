-- O3. The one NaN and its pattern, over the format: which pattern is written for it, which patterns are read as it,
-- and that reading and writing undo each other everywhere else. Assumes nothing.
use mathlib.Core.Path.{◌≡◌, refl, sym, ap, ◌∙◌}
use mathlib.Core.Bool.{Bool, true, false, not, cond, true≢false}
use Prim.Native.Nat.{ℕ, ◌*◌, ◌%◌, ◌≤◌, ◌<◌}
use borrow.Author.Tests.{lt-ltb, le-ltb}
use denote.Floats.{passes}
use lib.Dec.{T}
use lib.Ieee.{Float, nan, inf, fin, Format, binary32, binary64, div, ne, fits, is_nan, hid, ones, top, nan_bits}
use lib.Ieee.{of_bits}
use lib.Ieee.{to_bits}
use lib.Ieee.Bits.{of_bits-to_bits, to_bits-of_bits, nan_bits_is, nan_bits_above}
use lib.Ieee.Compare.{differs_from_itself}

-- ---- the two patterns
pub quiet-f64 : to_bits binary64 nan ≡ 0x7ff8_0000_0000_0000
unfolding to_bits
quiet-f64 = refl

pub quiet-f32 : to_bits binary32 nan ≡ 0x7fc0_0000
unfolding to_bits
quiet-f32 = refl

-- ---- writing: x != x is how a program tests for a NaN
pub writes-nan : (f : Format) (x : Float) → ne x x ≡ true → to_bits f nan ≡ to_bits f x
writes-nan f x h = ap (to_bits f) (sym (differs_from_itself x (passes (ne x x) h)))

pub writes-number : (x : Float) → ne x x ≡ false → T (not (is_nan x))
unfolding is_nan ne
writes-number nan h = absurd (true≢false h)
writes-number (inf s) h = tt
writes-number (fin s m e) h = tt

-- ---- the constant 0.0 / 0.0 is the NaN, and so every NaN
zero_by_zero : (f : Format) → div f (of_bits f 0) (of_bits f 0) ≡ nan
unfolding div of_bits
zero_by_zero binary32 = refl
zero_by_zero binary64 = refl

pub one-nan : (f : Format) (x : Float) → ne x x ≡ true → div f (of_bits f 0) (of_bits f 0) ≡ x
one-nan f x h = zero_by_zero f ∙ sym (differs_from_itself x (passes (ne x x) h))

-- ---- reading: the pattern without its sign lies above the infinity's
is-nan : (x : Float) → is_nan x ≡ true → nan ≡ x
unfolding is_nan
is-nan nan h = refl
is-nan (inf s) h = absurd (passes _ h)
is-nan (fin s m e) h = absurd (passes _ h)

pub reads-nan : (f : Format) (n : ℕ) → ones f * hid f < n % top f → div f (of_bits f 0) (of_bits f 0) ≡ of_bits f n
reads-nan f n h =
    zero_by_zero f
    ∙ is-nan (of_bits f n) (sym (nan_bits_is f n) ∙ nan_bits_above f n ∙ lt-ltb (ones f * hid f) (n % top f) h)

pub reads-number : (f : Format) (n : ℕ) → n % top f ≤ ones f * hid f → T (not (nan_bits f n))
reads-number f n h = rw (nan_bits_above f n, le-ltb (ones f * hid f) (n % top f) h) tt

-- ---- writing and reading undo each other
pub float_back : (f : Format) (x : Float) → T (fits f x) → of_bits f (to_bits f x) ≡ x
float_back f x h = of_bits-to_bits f x h

pub bits_back : (f : Format) (n : ℕ) → n < 2 * top f → to_bits f (of_bits f n) ≡ cond (nan_bits f n) (to_bits f nan) n
bits_back f n h = rw (nan_bits_is f n) (go (is_nan (of_bits f n)) refl)
  where
    go : (t : Bool) → is_nan (of_bits f n) ≡ t → to_bits f (of_bits f n) ≡ cond t (to_bits f nan) n
    go true e = ap (to_bits f) (sym (is-nan (of_bits f n) e))
    go false e = to_bits-of_bits f n h (rw e tt)
