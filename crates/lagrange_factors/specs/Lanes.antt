-- Two rounds of 000's inner loop over eight weights that lie side by side, as they do in the lanes of a register.
-- Definitions only.
use Rattle.std.specs.Prelude.{cond, List, [], ◌∷◌, ℕ, ◌+◌, ◌-◌, eqb, ltb, get_or, Float}
use Rattle.std.specs.Float.{nan, binary64}
use Rattle.std.specs.Float.Ieee.{sub, mul, div}

abbrev pub eight : (ℕ → Float) → List Float
eight f = f 0 ∷ f 1 ∷ f 2 ∷ f 3 ∷ f 4 ∷ f 5 ∷ f 6 ∷ f 7 ∷ []

-- The distances of eight nodes from the first, upwards and downwards.
abbrev pub above_of : List Float → List Float
above_of own = eight (λ k. sub binary64 (get_or own k nan) (get_or own 0 nan))

abbrev pub below_of : List Float → List Float
below_of own = eight (λ k. sub binary64 (get_or own 0 nan) (get_or own k nan))

-- The difference of node k and node j, which depends only on how far they lie apart.
abbrev pub gap_in : List Float → List Float → ℕ → ℕ → Float
gap_in up down k j = cond (ltb k j) (get_or down (j - k) nan) (get_or up (k - j) nan)

-- One weight after the factors of the nodes p and p + 1 of the eight, without its own; a and b are the position less
-- each.
abbrev pub lane_of : List Float → List Float → Float → Float → ℕ → List Float → ℕ → Float
lane_of up down a b p w k =
    cond (eqb k p) (mul binary64 (get_or w k nan) (div binary64 b (gap_in up down k (p + 1))))
    (cond (eqb k (p + 1)) (mul binary64 (get_or w k nan) (div binary64 a (gap_in up down k p)))
    (mul binary64 (mul binary64 (get_or w k nan) (div binary64 a (gap_in up down k p)))
    (div binary64 b (gap_in up down k (p + 1)))))

abbrev pub turned : List Float → List Float → Float → Float → ℕ → List Float → List Float
turned up down a b p w = eight (lane_of up down a b p w)

-- The same for two nodes that are not among the eight.
abbrev pub passed : List Float → Float → Float → Float → Float → List Float → List Float
passed own other next a b w =
    eight (λ k. mul binary64 (mul binary64 (get_or w k nan) (div binary64 a (sub binary64 (get_or own k nan) other)))
    (div binary64 b (sub binary64 (get_or own k nan) next)))
