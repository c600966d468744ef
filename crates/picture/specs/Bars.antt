-- The bars of a stretch: how tall they are, and where they stand. Definitions only.
use Rattle.std.specs.Prelude.{ℕ, ◌+◌, ◌-◌, ◌*◌, ◌/◌, cond, List, ◌++◌, eqb}
use Rattle.std.specs.Float.Ieee.{size}
use Rattle.text.specs.Text.{ascii, decimal}

-- How many binary digits a number has, 0 for 0: the law `digits` says that 2^(b - 1) ≤ n < 2^b.
abbrev pub bits_of : ℕ → ℕ
bits_of n = size n

-- A text followed by a number.
unfoldable pub number_text : List ℕ → ℕ → List ℕ
number_text before n = before ++ decimal n

-- The place on a line of 1000 units where stretch k of n begins.
unfoldable pub edge : ℕ → ℕ → ℕ
edge k n = cond (eqb n 0) 0 (k * 1000 / n)

-- A bar of stretch k of n, ten units tall for each bit. Its opening gives the colour.
unfoldable pub bar_text : List ℕ → ℕ → ℕ → ℕ → List ℕ
bar_text opening k n bits =
    number_text opening (edge k n) ++ (number_text (ascii "\" width=\"") (edge (k + 1) n - edge k n) ++
    (number_text (ascii "\" height=\"") (bits * 10) ++ ascii "\"/>"))

-- The light bar of the largest sample, and in front of it the dark bar of the largest difference.
unfoldable pub stretch_text : ℕ → ℕ → ℕ → ℕ → List ℕ
stretch_text k n sample difference =
    bar_text (ascii "<rect fill=\"#c4c4c4\" x=\"") k n (bits_of sample) ++
    (bar_text (ascii "<rect fill=\"#000\" x=\"") k n (bits_of difference) ++ ascii "\n")
