-- X1. Texts as bytes, and a text put into a list of bytes. Definitions only.
use Rattle.std.specs.Prelude.{ℕ, zero, suc, ◌+◌, ◌/◌, ◌%◌, min, cond, List, [], ◌∷◌, ◌++◌, ltb, length}
use Prim.Native.Char.{code}
use Prim.Native.String.{String, [] as empty, ◌∷◌ as ◌·◌}
use Rattle.std.proofs.lemmas.List.Edits.{sets}

-- The bytes of a text of ASCII characters.
unfoldable pub ascii : String → List ℕ
ascii empty = []
ascii (c · s) = code c ∷ ascii s

-- The decimal digits of n, at most k of them, without zeros in front.
unfoldable pub decimal_to : ℕ → ℕ → List ℕ
decimal_to zero n = []
decimal_to (suc k) n = cond (ltb n 10) [] (decimal_to k (n / 10)) ++ ((48 + n % 10) ∷ [])

-- The decimal digits of a word, which has at most 20.
abbrev pub decimal : ℕ → List ℕ
decimal n = decimal_to 20 n

-- The bytes xs after a text has been put there from a place on: byte k of the text stands k places further, and what
-- would stand past the end of xs is left out.
abbrev pub put_at : List ℕ → ℕ → List ℕ → List ℕ
put_at xs at text = sets xs at text

-- The place after a text in n bytes: their end, if the text reaches past it.
abbrev pub place_after : ℕ → ℕ → List ℕ → ℕ
place_after n at text = min n (at + length text)
