-- Texts compared, and split at the first `=`. Definitions only.
use Rattle.std.specs.Prelude.{ℕ, Bool, true, false, ◌&&◌, cond, List, [], ◌∷◌, eqb, ltb, length, take}
use Rattle.byte_marks.specs.Marks.{index_of}

unfoldable pub same_bytes : List ℕ → List ℕ → Bool
same_bytes [] [] = true
same_bytes [] (y ∷ ys) = false
same_bytes (x ∷ xs) [] = false
same_bytes (x ∷ xs) (y ∷ ys) = eqb x y && same_bytes xs ys

-- The place of the first `=`, or the end if there is none.
abbrev pub split_in : List ℕ → ℕ
split_in text = index_of 61 text

-- The bytes of a name: `A` to `Z` are 65 to 90, `a` to `z` 97 to 122, `-` is 45 and `_` is 95.
abbrev pub in_name : ℕ → Bool
in_name c = cond (ltb c 91) (cond (ltb c 65) (eqb c 45) true) (cond (ltb c 97) (eqb c 95) (ltb c 123))

unfoldable pub all_in_name : List ℕ → Bool
all_in_name [] = true
all_in_name (c ∷ cs) = in_name c && all_in_name cs

-- NAME=VALUE: there is an `=`, and only letters, `-` and `_`, at least one, stand before the first.
abbrev pub is_named : List ℕ → Bool
is_named text = ltb 0 (split_in text) && (ltb (split_in text) (length text) && all_in_name (take (split_in text) text))
