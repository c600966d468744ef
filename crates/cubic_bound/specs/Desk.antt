-- D3. What a transfer desk hands in, in whole numbers: samples and delays, the neighbours of a position, and the exact
-- value of a call. Definitions only.
use Rattle.std.specs.Prelude.{ℕ, ◌+◌, ◌*◌, ◌/◌, ◌^◌, ◌≤◌, cond, ◌&&◌, List, [], ◌∷◌, ◌++◌, leb, ltb, ℤ, pos, negsuc}
use Rattle.std.specs.Prelude.{nat_abs, ◌+ℤ◌, ◌-ℤ◌, ◌*ℤ◌, length, get_or, Float}
use Rattle.rounding_error.specs.Fraction.{Frac, frac, whole}
use Rattle.rounding_error.specs.Value.{Is}
use Rattle.cubic_bound.specs.Exact.{M, exact_cubic}

-- The sample x is s / 2^23 for a whole s, from -1 to 1.
pub record WholeSample (x : Float) (s : ℤ) : Type 0 where
  pub is : Is x (whole s (2 ^ 23))
  pub small : nat_abs s ≤ 2 ^ 23

pub data WholeSamples : List Float → List ℤ → Type 0 where
  none : WholeSamples [] []
  also : {x : Float} {s : ℤ} {xs : List Float} {ss : List ℤ} → WholeSample x s → WholeSamples xs ss
      → WholeSamples (x ∷ xs) (s ∷ ss)

-- The delay y is d / 65536 for a whole d, from 0 to 2^36.
pub record WholeDelay (y : Float) (d : ℕ) : Type 0 where
  pub is : Is y (frac d 0 65536)
  pub small : d ≤ 2 ^ 36 * 65536

-- K1, K3. The position i - d / 65536, in 65536ths; its integer part, which is the floor; and its fraction, the position
-- minus the integer part.
abbrev pub place : ℕ → ℕ → ℤ
place i d = pos i *ℤ M -ℤ pos d

abbrev pub integer : ℤ → ℤ
integer (pos a) = pos (a / 65536)
integer (negsuc a) = negsuc (a / 65536)

abbrev pub fraction : ℤ → ℤ
fraction n = n -ℤ integer n *ℤ M

-- K2, K8. The neighbour z among the accepted samples ss, the newest of which is the last. A ring of length len holds
-- the last len of them. A neighbour that the ring no longer holds, before the first or after the newest counts as zero.
abbrev pub neighbour : ℕ → List ℤ → ℤ → ℤ
neighbour len ss (negsuc k) = pos 0
neighbour len ss (pos k) = cond (ltb k (length ss) && leb (length ss) (k + len)) (get_or ss k (pos 0)) (pos 0)

-- The exact value of a call with input s and delay d after the accepted samples ss: the cubic through the four
-- neighbours of its position.
abbrev pub exact_at : ℕ → List ℤ → ℤ → ℕ → Frac
exact_at len ss s d =
    let n = place (length ss) d in
    let near = neighbour len (ss ++ s ∷ []) in
    exact_cubic (fraction n) (near (integer n -ℤ pos 1)) (near (integer n)) (near (integer n +ℤ pos 1))
    (near (integer n +ℤ pos 2))
