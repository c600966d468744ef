-- The exact weights are Lagrange's for the nodes -1, 0, 1 and 2: each is 1, that is 6M^3, at its own node and 0 at the
-- others. By computing. Assumes nothing.
use mathlib.Core.Path.{◌≡◌, refl}
use mathlib.Core.List.{List, [], ◌∷◌, map}
use Prim.Native.Nat.{◌*◌, ◌^◌}
use lib.IntN.{ℤ, pos, neg_ℤ, ◌*ℤ◌}
use Rattle.cubic_bound.specs.Exact.{M, weight0, weight1, weight2, weight3}

abbrev unit : ℤ
unit = pos (6 * 65536 ^ 3)

-- The weights at a node k, where m = kM.
abbrev at : ℤ → List ℤ
at k = let m = k *ℤ M in weight0 m ∷ weight1 m ∷ weight2 m ∷ weight3 m ∷ []

pub nodes : map at (neg_ℤ (pos 1) ∷ pos 0 ∷ pos 1 ∷ pos 2 ∷ [])
    ≡ (unit ∷ pos 0 ∷ pos 0 ∷ pos 0 ∷ []) ∷ (pos 0 ∷ unit ∷ pos 0 ∷ pos 0 ∷ []) ∷ (pos 0 ∷ pos 0 ∷ unit ∷ pos 0 ∷ [])
    ∷ (pos 0 ∷ pos 0 ∷ pos 0 ∷ unit ∷ []) ∷ []
nodes = refl
