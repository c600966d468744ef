-- N9. The order of refusals as a table. Each line is a number and its test, in the order in which the tests are read.
-- Definitions only.
use Rattle.std.specs.Prelude.{ℕ, zero, suc, ◌<◌, ◌≡◌, Bool, true, false, cond, ◌&&◌, List, [], ◌∷◌, eqb, get_or}

-- A line of the table: the number that is given unless the test holds.
infix 68 ◌unless◌
pub data Test : Type 0 where
  ◌unless◌ : ℕ → Bool → Test

-- The number of the first test that fails, or 0 if all hold. A number may stand on several lines.
abbrev pub first_of : List Test → ℕ
first_of [] = 0
first_of ((n unless t) ∷ ts) = cond t (first_of ts) n

-- The two parts of a line: its test and its number.
abbrev pub test_of : Test → Bool
test_of (n unless t) = t

abbrev pub number_of : Test → ℕ
number_of (n unless t) = n

-- Line k of the table. Past the table's end it is a line whose test always holds.
abbrev pub line_of : List Test → ℕ → Test
line_of ts k = get_or ts k (0 unless true)

-- Line k, counted from 0, is the first whose test fails.
pub record First (ts : List Test) (k : ℕ) : Type 0 where
  pub fails : test_of (line_of ts k) ≡ false
  pub before : (j : ℕ) → j < k → test_of (line_of ts j) ≡ true

-- Every number of the table is above 0, because 0 stands for no refusal.
abbrev pub numbered : List Test → Bool
numbered [] = true
numbered ((zero unless t) ∷ ts) = false
numbered ((suc n unless t) ∷ ts) = numbered ts

-- The numbers go up by one from n on, as those of document 01 do from 1.
abbrev pub counted : ℕ → List Test → Bool
counted n [] = true
counted n ((m unless t) ∷ ts) = eqb m n && counted (suc n) ts
