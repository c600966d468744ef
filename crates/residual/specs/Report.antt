-- W13a to W13d, W13f. The report of two equally long stretches of whole samples: sample by sample, over many calls, and
-- all at once. Definitions only.
use Rattle.std.specs.Prelude.{ℕ, suc, ◌+◌, ◌*◌, ◌/◌, ◌%◌, ◌^◌, max, Bool, cond, ◌||◌, List, [], ◌∷◌, length, ℤ}
use Rattle.std.specs.Prelude.{◌-ℤ◌, ◌==◌, nat_lt, unsigned_abs, Option, Some, None}
use mathlib.Core.List.{foldl}
use Rattle.residual.specs.declared.Report.{Report}

-- The absolute difference of two samples, and those of two stretches, sample by sample.
abbrev pub difference : ℤ → ℤ → ℕ
difference x y = unsigned_abs (x -ℤ y)

unfoldable pub differences : List ℤ → List ℤ → List ℕ
differences [] ys = []
differences (x ∷ xs) [] = []
differences (x ∷ xs) (y ∷ ys) = difference x y ∷ differences xs ys

-- W13f. An empty report has number zero and no place.
abbrev pub empty_report : Report
empty_report = record { number = 0; largest = 0; place = None; high = 0; low = 0 }

-- W13d. The sum does not fit 64 bits and is handed out as two halves.
abbrev pub sum_of : Report → ℕ
sum_of r = r.high * 2 ^ 64 + r.low

-- The difference is the first of all, or above the largest so far.
abbrev pub newer : Report → ℕ → Bool
newer r d = r.number == 0 || nat_lt r.largest d

-- The report with one more difference. A place is counted over all calls from the first sample compared.
unfoldable pub one : Report → ℕ → Report
one r d = record {
  number = r.number + 1;
  largest = cond (newer r d) d r.largest;
  place = cond (newer r d) (Some r.number) r.place;
  high = (sum_of r + d * d) / 2 ^ 64;
  low = (sum_of r + d * d) % 2 ^ 64;
}

-- A report extended by two stretches.
unfoldable pub carried : Report → List ℤ → List ℤ → Report
carried r xs ys = foldl one r (differences xs ys)

-- ---- what a report says, without any running: the number of all differences (W13a), the greatest (W13b), the index at
-- which it stands first (W13c), and the sum of the squares (W13d).
unfoldable pub greatest : List ℕ → ℕ
greatest [] = 0
greatest (d ∷ ds) = max d (greatest ds)

unfoldable pub first_at : ℕ → List ℕ → ℕ
first_at g [] = 0
first_at g (d ∷ ds) = cond (d == g) 0 (suc (first_at g ds))

unfoldable pub squares : List ℕ → ℕ
squares [] = 0
squares (d ∷ ds) = d * d + squares ds

-- If nothing was compared there is no place.
unfoldable pub place_of : List ℕ → Option ℕ
place_of [] = None
place_of (d ∷ ds) = Some (first_at (greatest (d ∷ ds)) (d ∷ ds))

unfoldable pub report_of : List ℕ → Report
report_of ds = record {
  number = length ds;
  largest = greatest ds;
  place = place_of ds;
  high = squares ds / 2 ^ 64;
  low = squares ds % 2 ^ 64;
}
