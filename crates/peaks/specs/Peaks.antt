-- The largest difference of a stretch, and a list of such numbers. Definitions only.
use Rattle.std.specs.Prelude.{ℕ, max, List, ℤ, get_or, set}
use Rattle.residual.specs.declared.Compared.{Compared}
use Rattle.residual.specs.declared.Compared.TheVariants.{Carried, Refused}
use Rattle.residual.specs.Report.{empty_report}
use Rattle.residual.specs.Refusals.{compared_of}

abbrev pub largest_in : Compared → ℕ
largest_in (Carried r) = r.largest
largest_in (Refused k) = 0

-- W13b, for this stretch alone.
unfoldable pub largest_of : List ℤ → List ℤ → ℕ
largest_of a b = largest_in (compared_of empty_report a b)

-- The list with the number at a place raised to at least n.
unfoldable pub raised : List ℕ → ℕ → ℕ → List ℕ
raised peaks at n = set peaks at (max (get_or peaks at 0) n)
