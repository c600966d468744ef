-- The place of a byte in a text. Definitions only.
use Rattle.std.specs.Prelude.{ℕ, suc, cond, List, [], ◌∷◌, eqb}

-- The place of the first such byte, or the end if there is none.
unfoldable pub index_of : ℕ → List ℕ → ℕ
index_of b [] = 0
index_of b (c ∷ cs) = cond (eqb c b) 0 (suc (index_of b cs))
