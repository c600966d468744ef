-- Which whole delays would be accepted, in words. Definitions only.
use Rattle.std.specs.Prelude.{ℕ, zero, suc, ◌+◌, ◌-◌, cond, List, ◌++◌, ltb, pos, Float}
use Rattle.std.specs.Float.{binary64}
use Rattle.std.specs.Float.Ieee.{le, of_int}
use Rattle.text.specs.Text.{ascii, decimal}

-- The least of the numbers n, n + 1, … n + k that is not below x, or the last of them if all are below.
unfoldable pub least_from : ℕ → ℕ → Float → ℕ
least_from zero n x = n
least_from (suc k) n x = cond (le x (of_int binary64 (pos n))) n (least_from k (suc n) x)

-- The least whole number that is not below x, up to 65536.
abbrev pub whole_above : Float → ℕ
whole_above x = least_from 65536 0 x

-- The kernel reads 16 samples to either side, so the least delay is 16 more than the wandering reaches, and the
-- greatest is 65528, the longest that the ring holds, less as much.
unfoldable pub range_text : ℕ → List ℕ
range_text above =
    ascii "with these settings delay= can be from " ++ (decimal (above + 16) ++
    (ascii " to " ++ (decimal (65512 - above) ++ ascii " samples\n")))

-- The settings may leave no delay between the two ends.
unfoldable pub delays_text : ℕ → List ℕ
delays_text above =
    cond (ltb above 32749) (range_text above)
    (ascii "no delay= will do: these settings wander past the ring: choose a higher rate or a smaller depth\n")
