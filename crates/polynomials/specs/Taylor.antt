-- E1, E4. The beginnings of Taylor's series as exact fractions. Definitions only.
use Rattle.std.specs.Prelude.{ℕ, zero, suc, ◌*◌}
use Rattle.rounding_error.specs.Fraction.{Frac, frac, plus, times, opp}

unfoldable pub factorial : ℕ → ℕ
factorial zero = 1
factorial (suc n) = suc n * factorial n

unfoldable pub power : Frac → ℕ → Frac
power x zero = frac 1 0 1
power x (suc n) = times (power x n) x

-- The term x ^ n / n!.
unfoldable pub term : Frac → ℕ → Frac
unfolding factorial power
term x n = frac (power x n).p (power x n).n ((power x n).d * factorial n)

-- The sum x ^ n / n! - x ^ (n + 2) / (n + 2)! + .., with k terms after the first.
unfoldable pub alternating : Frac → ℕ → ℕ → Frac
unfolding term
alternating x n zero = term x n
alternating x n (suc k) = plus (term x n) (opp (alternating x (suc (suc n)) k))

-- The sum x ^ n / n! + x ^ (n + 1) / (n + 1)! + .., with k terms after the first.
unfoldable pub rising : Frac → ℕ → ℕ → Frac
unfolding term
rising x n zero = term x n
rising x n (suc k) = plus (term x n) (rising x (suc n) k)

-- The last powers are x ^ 21, x ^ 20 and x ^ 16, one to three terms more than the polynomials in floats have.
abbrev pub sine_fraction : Frac → Frac
sine_fraction x = alternating x 1 10

abbrev pub cosine_fraction : Frac → Frac
cosine_fraction x = alternating x 0 10

abbrev pub exp_fraction : Frac → Frac
exp_fraction x = rising x 0 16
