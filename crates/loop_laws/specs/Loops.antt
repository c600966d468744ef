-- A loop as a function of its number of turns, and the lists that a loop writes. Definitions only.
use Rattle.std.specs.Prelude.{ℕ, zero, suc, List, [], ◌∷◌, ◌++◌, Float}

-- A loop over 0 .. n, whose turn k is `step k`.
unfoldable pub fold : (ℕ → Float → Float) → Float → ℕ → Float
fold step a zero = a
fold step a (suc n) = step n (fold step a n)

-- The list f 0, f 1, .., f (n - 1), of floats, whole numbers or anything else.
unfoldable pub list_of : {A : Type 0} → (ℕ → A) → ℕ → List A
list_of f zero = []
list_of f (suc n) = list_of f n ++ (f n ∷ [])

-- n rows, one behind the other.
unfoldable pub rows : (ℕ → List Float) → ℕ → List Float
rows f zero = []
rows f (suc n) = rows f n ++ f n
