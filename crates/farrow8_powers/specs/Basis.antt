-- K6. Lagrange's basis for the nodes -3 to 4 by powers of x. The polynomial of a node is the product of (x - j) over
-- the other nodes j, divided by the product of the node's distances from them. Definitions only.
use Rattle.std.specs.Prelude.{ℕ, zero, suc, ◌<◌, ◌≡◌, cond, List, [], ◌∷◌, map, eqb, ℤ, pos, nat_abs, ◌+ℤ◌, ◌-ℤ◌, ◌*ℤ◌}
use Rattle.std.specs.Prelude.{length, get_or}
use Rattle.farrow8_powers.specs.Table.{eight, num_at, den_at, rounded_at, quotients, quotient_in}

-- The nodes are -3 to 4.
abbrev pub node : ℕ → ℤ
node i = pos i -ℤ pos 3

-- A polynomial times (x - j), lowest power first; `below` is the polynomial's coefficient one power lower.
unfoldable pub times_less : ℤ → ℤ → List ℤ → List ℤ
times_less j below [] = below ∷ []
times_less j below (a ∷ rest) = (below -ℤ j *ℤ a) ∷ times_less j a rest

-- The product of (x - j) over the first n nodes j, without node r.
unfoldable pub product : ℕ → ℕ → List ℤ
unfolding times_less
product r zero = pos 1 ∷ []
product r (suc i) = cond (eqb i r) (product r i) (times_less (node i) (pos 0) (product r i))

-- The product of (node r - j) over the same nodes.
unfoldable pub distances : ℕ → ℕ → ℤ
distances r zero = pos 1
distances r (suc i) = cond (eqb i r) (distances r i) (distances r i *ℤ (node r -ℤ node i))

-- The value of such a polynomial at x. By `at-nodes` in proofs/Basis.antt a product is 0 at every node but its own, and
-- there it is the product of the distances.
unfoldable pub value_at : ℤ → List ℤ → ℤ
value_at x [] = pos 0
value_at x (a ∷ rest) = a +ℤ x *ℤ value_at x rest

-- The coefficient of x^p in the basis polynomial of node r is coefficient r p / distances r 8.
abbrev pub coefficient : ℕ → ℕ → ℤ
coefficient r p = get_or (product r 8) p (pos 0)

-- The rule for an entry. The table's fraction is the coefficient, as an equation of whole numbers between two fractions
-- whose denominators are not zero, and the table's quotient is that fraction rounded once.
pub record Entry (r p : ℕ) : Type 0 where
  pub proper : 0 < den_at r p
  pub distinct : 0 < nat_abs (distances r 8)
  pub same : num_at r p *ℤ distances r 8 ≡ coefficient r p *ℤ pos (den_at r p)
  pub rounded : quotient_in quotients r p ≡ rounded_at r p

-- The table has eight rows of eight.
abbrev pub Full : {A : Type 0} → List (List A) → Type 0
Full t = map length t ≡ eight (λ r. 8)
