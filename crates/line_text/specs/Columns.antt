-- Blanks, columns, digits with zeros in front, and tenths. Definitions only.
use Rattle.std.specs.Prelude.{ℕ, zero, suc, ◌+◌, ◌-◌, ◌/◌, ◌%◌, min, List, [], ◌∷◌, ◌++◌, length}
use Rattle.text.specs.Text.{ascii, decimal}

-- A blank is the byte 32.
unfoldable pub blanks : ℕ → List ℕ
blanks zero = []
blanks (suc k) = 32 ∷ blanks k

-- A number at the right of a column: blanks stand before its digits, unless these fill it.
abbrev pub right_of : ℕ → ℕ → List ℕ
right_of n width = blanks (width - length (decimal n)) ++ decimal n

-- The last k decimal digits of n, zeros in front included.
unfoldable pub last_digits : ℕ → ℕ → List ℕ
last_digits zero n = []
last_digits (suc k) n = last_digits k (n / 10) ++ ((48 + n % 10) ∷ [])

-- The same, with at most 20 digits, because a word has no more.
abbrev pub places_in : ℕ → ℕ → List ℕ
places_in k n = last_digits (min k 20) n

-- The number n / 10 with one digit behind the point.
abbrev pub tenths_of : ℕ → List ℕ
tenths_of n = decimal (n / 10) ++ (ascii "." ++ places_in 1 n)
