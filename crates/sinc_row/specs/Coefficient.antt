-- K4, T1. 000's sinc, Kaiser's window, and a coefficient before it is divided by the sum of its row: each step rounded,
-- in 000's order. Definitions only.
use Rattle.std.specs.Prelude.{ℕ, ◌-◌, ◌^◌, Bool, true, false, cond, ◌&&◌, pos, negsuc, Float}
use Rattle.std.specs.Float.{nan, inf, fin, binary64}
use Rattle.std.specs.Float.Ieee.{round, sub, mul, div, lt, le, of_int}
use Rattle.rounding.specs.Operations.{root}
use Rattle.min_max.specs.Choice.{larger}
use Rattle.elementary.specs.Answers.{sine_at}
use Rattle.bessel.specs.declared.Mode.{Mode}
use Rattle.bessel.specs.declared.Mode.TheVariants.{Ported}
use Rattle.bessel.specs.Modes.{sum_in}
use Rattle.sinc_settings.specs.declared.Settings.{Settings}
use Rattle.sinc_settings.specs.Ranges.{zero-f, one-f, two-f}

abbrev pub num : ℕ → Float
num n = of_int binary64 (pos n)

-- Rust's f64::abs.
abbrev pub abs_of : Float → Float
abs_of nan = nan
abs_of (inf s) = inf false
abs_of (fin s m e) = fin false m e

-- In 000: `x.abs() < 1.0e-12`.
unfoldable pub small_of : Float → Bool
small_of x = lt (abs_of x) (round binary64 false 1 (10 ^ 12))

-- The f64 next to pi, with the pattern 400921FB54442D18.
abbrev pub pi : Float
pi = fin false 884279719003555 (negsuc 47)

unfoldable pub sinc_of : Float → Float
sinc_of x = cond (small_of x) one-f (div binary64 (sine_at (mul binary64 pi x)) (mul binary64 pi x))

-- In 000: `2.0 * k / (taps - 1) - 1.0`.
abbrev pub normalized_of : ℕ → ℕ → Float
normalized_of taps k = sub binary64 (div binary64 (mul binary64 two-f (num k)) (num (taps - 1))) one-f

-- Kaiser's window is the quotient of I0 at beta times the root of 1 - normalized^2 (at least 0) and I0 at beta. I0 is
-- the sum in a mode (W5).
abbrev pub argument_of : Settings → ℕ → Float
argument_of s k =
    let n = normalized_of s.taps k in
    mul binary64 s.beta (root binary64 (larger (sub binary64 one-f (mul binary64 n n)) zero-f))

unfoldable pub window_in : Mode → Settings → ℕ → Float
window_in mode s k = div binary64 (sum_in mode (argument_of s k)) (sum_in mode s.beta)

-- 000's window, which is that of the ported mode.
abbrev pub window_of : Settings → ℕ → Float
window_of = window_in Ported

-- In 000: `k - center - frac`, where center is taps / 2 - 1 and frac is phase / phases.
abbrev pub center_of : ℕ → Float
center_of taps = sub binary64 (div binary64 (num taps) two-f) one-f

abbrev pub frac_of : ℕ → ℕ → Float
frac_of phases phase = div binary64 (num phase) (num phases)

abbrev pub distance_of : Settings → ℕ → ℕ → Float
distance_of s phase k = sub binary64 (sub binary64 (num k) (center_of s.taps)) (frac_of s.phases phase)

-- In 000: `cutoff * sinc(cutoff * distance) * window`.
abbrev pub coefficient_of : Float → Float → Float → Float
coefficient_of cutoff distance window = mul binary64 (mul binary64 cutoff (sinc_of (mul binary64 cutoff distance)))
    window

-- W11a. The same for any arguments. If the sinc's argument lies beyond 65, where no table and no filter comes, it is
-- 0.0.
abbrev pub coefficient_at : Float → Float → Float → Float
coefficient_at cutoff distance window =
    let x = mul binary64 cutoff distance in
    cond (le (fin true 65 (pos 0)) x && le x (fin false 65 (pos 0))) (coefficient_of cutoff distance window) zero-f
