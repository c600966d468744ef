-- X1. A word as text: hex digits in capitals, the highest first. Definitions only.
use Rattle.std.specs.Prelude.{ℕ, zero, suc, ◌+◌, ◌-◌, ◌*◌, ◌/◌, ◌%◌, cond, List, [], ◌∷◌, ◌++◌, ltb}

-- The character of a digit below 16: `0` to `9`, then `A` to `F`.
abbrev pub glyph : ℕ → ℕ
glyph d = cond (ltb d 10) (48 + d) (55 + d)

-- The lowest k hex digits of n.
unfoldable pub hex_digits : ℕ → ℕ → List ℕ
hex_digits zero n = []
hex_digits (suc k) n = hex_digits k (n / 16) ++ (glyph (n % 16) ∷ [])

-- The digit that a character stands for. Any character but `0` to `9` and `A` to `F` counts as 0.
abbrev pub digit_of : ℕ → ℕ
digit_of c = cond (ltb c 48) 0 (cond (ltb c 58) (c - 48) (cond (ltb c 65) 0 (cond (ltb c 71) (c - 55) 0)))

-- The number n followed by the digits of a text. `hex_value 0` reads a text of any length.
unfoldable pub hex_value : ℕ → List ℕ → ℕ
hex_value n [] = n
hex_value n (c ∷ cs) = hex_value (n * 16 + digit_of c) cs
