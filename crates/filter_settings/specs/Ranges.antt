-- W11b. The ranges of a filter's settings, and which refusal `design_lowpass` gives: 1 for a setting out of range, 2
-- for a slice that has not as many elements as there are taps, 0 for none. A NaN lies in no range. Definitions only.
use Rattle.std.specs.Prelude.{ℕ, ◌%◌, Bool, false, ◌&&◌, ◌||◌, [], ◌∷◌, eqb, leb, negsuc, Float}
use Rattle.std.specs.Float.{fin}
use Rattle.std.specs.Float.Ieee.{lt, le}
use Rattle.constants.specs.Numbers.{one-f}
use Rattle.refusal_order.specs.Order.{◌unless◌, first_of}
use Rattle.sinc_settings.specs.Ranges.{beta_ok}

-- The taps are odd and from 17 to 129.
abbrev pub taps_ok : ℕ → Bool
taps_ok taps = leb 17 taps && leb taps 129 && eqb (taps % 2) 1

-- The factor is 2 or 4.
abbrev pub factor_ok : ℕ → Bool
factor_ok factor = eqb factor 2 || eqb factor 4

-- The cutoff is from 1/1024 to below 1.
abbrev pub cutoff_ok : Float → Bool
cutoff_ok x = le (fin false 1 (negsuc 9)) x && lt x one-f

-- Beta is from 0 to 20, as a table's is.
abbrev pub design_ok : ℕ → Float → Float → Bool
design_ok taps cutoff beta = taps_ok taps && (cutoff_ok cutoff && beta_ok beta)

-- The refusal when a slice of this length is lent to `design_lowpass`.
abbrev pub design_verdict : ℕ → Float → Float → ℕ → ℕ
design_verdict taps cutoff beta len = first_of (1 unless design_ok taps cutoff beta ∷ 2 unless eqb len taps ∷ [])
