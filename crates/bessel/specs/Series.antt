-- T2, K4. 000's bessel_i0: the series of I0, each step rounded, in 000's order. The number of terms is an argument.
-- Definitions only.
use Rattle.std.specs.Prelude.{ℕ, zero, suc, ◌^◌, Bool, true, false, cond, pos, Float}
use Rattle.std.specs.Float.{fin, binary64}
use Rattle.std.specs.Float.Ieee.{round, add, mul, div, lt, of_int}
pub use Rattle.constants.specs.Numbers.{one-f}

-- In 000: `term *= y / (k * k)`.
abbrev pub term_of : Float → ℕ → Float → Float
term_of y k term = mul binary64 term (div binary64 y (mul binary64 (of_int binary64 (pos k)) (of_int binary64 (pos k))))

-- The series ends at a term below sum × 1.0e-16.
abbrev pub ends : Float → Float → Bool
ends sum term = lt term (mul binary64 sum (round binary64 false 1 (10 ^ 16)))

-- The final sum, from the sum and the term after k terms on, with at most n terms more. The first term that is too
-- small is still added and is the last.
unfoldable pub sum_after : ℕ → ℕ → Float → Float → Float → Float
sum_after zero k y sum term = sum
sum_after (suc n) k y sum term =
    let next = term_of y (suc k) term in
    let more = add binary64 sum next in
    cond (ends more next) more (sum_after n (suc k) y more next)

abbrev pub four-f : Float
four-f = fin false 1 (pos 2)

-- The sum of 1 and at most `terms` terms after it, in y = x * x / 4.
unfoldable pub series_of : ℕ → Float → Float
unfolding sum_after
series_of terms x = sum_after terms 0 (div binary64 (mul binary64 x x) four-f) one-f one-f

-- ---- W5d. Why the series ends: whether one of the next n terms is below the sum × 1.0e-16
unfoldable pub ends_after : ℕ → ℕ → Float → Float → Float → Bool
ends_after zero k y sum term = false
ends_after (suc n) k y sum term =
    let next = term_of y (suc k) term in
    let more = add binary64 sum next in
    cond (ends more next) true (ends_after n (suc k) y more next)

unfoldable pub ends_within : ℕ → Float → Bool
unfolding ends_after
ends_within terms x = ends_after terms 0 (div binary64 (mul binary64 x x) four-f) one-f one-f
