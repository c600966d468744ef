-- K6. Farrow8's constant: eight rows of eight quotients. That the fractions are Lagrange's basis is `basis` in
-- proofs/Basis.antt, by the rule of Basis.antt. Definitions only.
use Rattle.std.specs.Prelude.{ℕ, List, [], ◌∷◌, ℤ, pos, neg_ℤ, get_or, Float}
use Rattle.std.specs.Float.{nan, binary64}
use Rattle.std.specs.Float.Ieee.{div, of_int}

abbrev pub eight : {A : Type 0} → (ℕ → A) → List A
eight f = f 0 ∷ f 1 ∷ f 2 ∷ f 3 ∷ f 4 ∷ f 5 ∷ f 6 ∷ f 7 ∷ []

abbrev neg : ℕ → ℤ
neg n = neg_ℤ (pos n)

-- The exact fractions by their numerators and denominators: a row for each node from -3 to 4, a column for each power
-- of the fraction from 0 to 7.
abbrev pub nums : List (List ℤ)
nums = (pos 0 ∷ neg 1 ∷ pos 1 ∷ pos 1 ∷ neg 1 ∷ neg 1 ∷ pos 1 ∷ neg 1 ∷ [])
    ∷ (pos 0 ∷ pos 1 ∷ neg 3 ∷ neg 71 ∷ pos 1 ∷ neg 1 ∷ neg 1 ∷ pos 1 ∷ [])
    ∷ (pos 0 ∷ neg 3 ∷ pos 3 ∷ pos 1 ∷ neg 13 ∷ pos 3 ∷ pos 1 ∷ neg 1 ∷ [])
    ∷ (pos 1 ∷ neg 1 ∷ neg 49 ∷ pos 49 ∷ pos 7 ∷ neg 7 ∷ neg 1 ∷ pos 1 ∷ [])
    ∷ (pos 0 ∷ pos 1 ∷ pos 3 ∷ neg 11 ∷ neg 13 ∷ pos 17 ∷ pos 1 ∷ neg 1 ∷ [])
    ∷ (pos 0 ∷ neg 3 ∷ neg 3 ∷ pos 89 ∷ pos 1 ∷ neg 3 ∷ neg 1 ∷ pos 1 ∷ [])
    ∷ (pos 0 ∷ pos 1 ∷ pos 1 ∷ neg 4 ∷ neg 1 ∷ pos 17 ∷ pos 1 ∷ neg 1 ∷ [])
    ∷ (pos 0 ∷ neg 1 ∷ pos 0 ∷ pos 7 ∷ pos 0 ∷ neg 1 ∷ pos 0 ∷ pos 1 ∷ []) ∷ []

abbrev pub dens : List (List ℕ)
dens = (1 ∷ 105 ∷ 180 ∷ 90 ∷ 144 ∷ 720 ∷ 720 ∷ 5040 ∷ [])
    ∷ (1 ∷ 10 ∷ 40 ∷ 720 ∷ 12 ∷ 360 ∷ 120 ∷ 720 ∷ [])
    ∷ (1 ∷ 5 ∷ 4 ∷ 15 ∷ 48 ∷ 80 ∷ 48 ∷ 240 ∷ [])
    ∷ (1 ∷ 4 ∷ 36 ∷ 144 ∷ 18 ∷ 72 ∷ 36 ∷ 144 ∷ [])
    ∷ (1 ∷ 1 ∷ 4 ∷ 18 ∷ 48 ∷ 144 ∷ 48 ∷ 144 ∷ [])
    ∷ (1 ∷ 10 ∷ 40 ∷ 240 ∷ 12 ∷ 40 ∷ 120 ∷ 240 ∷ [])
    ∷ (1 ∷ 15 ∷ 180 ∷ 45 ∷ 144 ∷ 720 ∷ 720 ∷ 720 ∷ [])
    ∷ (1 ∷ 140 ∷ 1 ∷ 720 ∷ 1 ∷ 360 ∷ 1 ∷ 5040 ∷ []) ∷ []

-- The fraction of row r and power p.
abbrev pub num_at : ℕ → ℕ → ℤ
num_at r p = get_or (get_or nums r []) p (pos 0)

abbrev pub den_at : ℕ → ℕ → ℕ
den_at r p = get_or (get_or dens r []) p 0

-- The fraction of row r and power p, rounded once.
abbrev pub rounded_at : ℕ → ℕ → Float
rounded_at r p = div binary64 (of_int binary64 (num_at r p)) (of_int binary64 (pos (den_at r p)))

-- 000's constant: each fraction rounded once.
unfoldable pub quotients : List (List Float)
quotients = eight (λ r. eight (rounded_at r))

-- The quotient of row r and power p in a table.
abbrev pub quotient_in : List (List Float) → ℕ → ℕ → Float
quotient_in c r p = get_or (get_or c r []) p nan

-- The quotients that belong to the power p.
abbrev pub column_in : List (List Float) → ℕ → List Float
column_in c p = eight (λ r. quotient_in c r p)
