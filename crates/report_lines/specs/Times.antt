-- A length in time: hours, minutes, seconds and thousandths, in whole numbers. Definitions only.
use Rattle.std.specs.Prelude.{ℕ, ◌*◌, ◌/◌, ◌%◌, cond, List, [], ◌++◌, eqb, ltb}
use Rattle.text.specs.Text.{ascii, decimal}

-- At least two digits, and at least three, with zeros in front.
unfoldable pub two_text : ℕ → List ℕ
two_text n = cond (ltb n 10) (ascii "0" ++ decimal n) (decimal n)

unfoldable pub three_text : ℕ → List ℕ
three_text n = cond (ltb n 100) (ascii "0" ++ two_text n) (two_text n)

-- Seconds and thousandths as a clock shows them: hours, then minutes and seconds below 60.
unfoldable pub clock_text : ℕ → ℕ → List ℕ
clock_text seconds thousandths =
    decimal (seconds / 3600) ++ (ascii ":" ++ (two_text (seconds / 60 % 60) ++
    (ascii ":" ++ (two_text (seconds % 60) ++ (ascii "." ++ three_text thousandths)))))

-- How long some frames last at a rate, rounded down to thousandths of a second. A rate of 0 gives no length, so there
-- is no text.
unfoldable pub length_text : ℕ → ℕ → List ℕ
length_text frames rate =
    cond (eqb rate 0) [] (clock_text (frames / rate) (frames % rate * 1000 / rate))
