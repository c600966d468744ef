-- The samples of two channels in turn. Definitions only.
use Rattle.std.specs.Prelude.{ℕ, ◌/◌, ◌%◌, cond, List, eqb, get_or, Float}
use Rattle.constants.specs.Numbers.{zero-f}

-- Sample i of the first channel stands at place 2i, and that of the second at 2i + 1; 0.0 stands for one that is not
-- there.
unfoldable pub woven_at : List Float → List Float → ℕ → Float
woven_at one two k = cond (eqb (k % 2) 0) (get_or one (k / 2) zero-f) (get_or two (k / 2) zero-f)
