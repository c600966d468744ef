-- W11a. 000's design_lowpass: each step rounded, in 000's order. Definitions only.
use Rattle.std.specs.Prelude.{ℕ, ◌-◌, true, cond, List, eqb, pos, length, Float}
use Rattle.std.specs.Float.{fin, binary64}
use Rattle.std.specs.Float.Ieee.{add, sub, mul, div}
use Rattle.constants.specs.Numbers.{zero-f, one-f, two-f}
use Rattle.loop_laws.specs.Loops.{fold, list_of}
use Rattle.rounding.specs.Operations.{root}
use Rattle.min_max.specs.Choice.{larger}
use Rattle.bessel.specs.Series.{series_of}
use Rattle.sinc_row.specs.Coefficient.{num, coefficient_of}
use Rattle.filter_settings.specs.Ranges.{design_verdict}

-- In 000: `(taps - 1) as f64 / 2.0`.
abbrev pub center_of : ℕ → Float
center_of taps = div binary64 (num (taps - 1)) two-f

abbrev pub distance_of : ℕ → ℕ → Float
distance_of taps k = sub binary64 (num k) (center_of taps)

-- Kaiser's window, where `denom` is I0 of beta. In 000 the place in the window is `distance / center`, and I0 is a sum
-- of at most 24 terms.
abbrev pub kaiser_of : Float → Float → Float → Float → Float
kaiser_of distance center beta denom =
    let n = div binary64 distance center in
    let arch = root binary64 (larger (sub binary64 one-f (mul binary64 n n)) zero-f) in
    div binary64 (series_of 24 (mul binary64 beta arch)) denom

abbrev pub window_of : ℕ → Float → ℕ → Float
window_of taps beta k = kaiser_of (distance_of taps k) (center_of taps) beta (series_of 24 beta)

-- In 000: `cutoff * sinc(cutoff * distance) * window`.
abbrev pub raw_of : ℕ → Float → Float → ℕ → Float
raw_of taps cutoff beta k = coefficient_of cutoff (distance_of taps k) (window_of taps beta k)

-- In 000: `coefficients.iter().sum()`, here over the first n. Rust starts such a sum at -0.0.
abbrev pub minus-zero-f : Float
minus-zero-f = fin true 0 (pos 0)

abbrev pub gain_of : ℕ → Float → Float → ℕ → Float
gain_of taps cutoff beta n = fold (λ (k : ℕ) (gain : Float). add binary64 gain (raw_of taps cutoff beta k)) minus-zero-f
    n

-- The low-pass filter: each coefficient is divided by their sum.
unfoldable pub lowpass_of : ℕ → Float → Float → List Float
lowpass_of taps cutoff beta =
    list_of (λ (k : ℕ). div binary64 (raw_of taps cutoff beta k) (gain_of taps cutoff beta taps)) taps

-- The lent slice afterwards. A refusal leaves every element as it was.
abbrev pub designed : ℕ → Float → Float → List Float → List Float
designed taps cutoff beta xs =
    cond (eqb (design_verdict taps cutoff beta (length xs)) 0) (lowpass_of taps cutoff beta) xs
