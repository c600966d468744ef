-- K7, D2b. Lagrange's formula over whole numbers: the weight of node k at x = p / q is the product of (x - j) / (k - j)
-- over the other nodes j. That the loop of Weight.antt gives it in fractions is `formula` in proofs/Nodes.antt.
-- Definitions only.
use Rattle.std.specs.Prelude.{ℕ, zero, suc, cond, eqb, ℤ, pos, ◌-ℤ◌, ◌*ℤ◌}

-- The numerator: the product of (p - j q) over the nodes j below n other than k. Each factor stands over a q.
unfoldable pub numerator : ℤ → ℤ → ℕ → ℕ → ℤ
numerator p q k zero = pos 1
numerator p q k (suc j) = cond (eqb j k) (numerator p q k j) (numerator p q k j *ℤ (p -ℤ pos j *ℤ q))

-- The denominator: the product of (k - j) over the same nodes, with a factor q for each.
unfoldable pub denominator : ℤ → ℕ → ℕ → ℤ
denominator q k zero = pos 1
denominator q k (suc j) = cond (eqb j k) (denominator q k j) (denominator q k j *ℤ ((pos k -ℤ pos j) *ℤ q))
