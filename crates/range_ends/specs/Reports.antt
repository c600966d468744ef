-- W13. A residual's report by its numbers, and the number by which a call with it is refused, 0 for none. Definitions
-- only.
use Rattle.std.specs.Prelude.{ℕ, ◌-◌, ◌/◌, ◌%◌, ◌^◌, List, [], ◌∷◌, ℤ, pos, negsuc}
use Rattle.residual.specs.declared.Report.{Report}
use Rattle.std.specs.Prelude.{Option}
use Rattle.residual.specs.Refusals.{all24, numbers_ok, report_ok, verdict, compared_of}
use Rattle.residual.specs.Report.{differences, one}
use Rattle.residual.specs.Report.{carried as carried_on}
use Rattle.residual.specs.Runs.{behind}
use Rattle.fugnadri_residual.specs.Words.{refusal_of, numbers, left_from}

-- The sum is passed as two halves.
abbrev pub reported : ℕ → ℕ → Option ℕ → ℕ → Report
reported number largest place sum = record {
  number = number;
  largest = largest;
  place = place;
  high = sum / 2 ^ 64;
  low = sum % 2 ^ 64;
}

unfoldable pub compared : Report → List ℤ → List ℤ → ℕ
unfolding verdict all24 numbers_ok report_ok
compared r xs ys = refusal_of (compared_of r xs ys)

-- The report after a call: extended, or as it was.
unfoldable pub left : Report → List ℤ → List ℤ → Report
unfolding verdict all24 numbers_ok report_ok carried_on differences one
left r xs ys = behind r (compared_of r xs ys)

-- A call that has nothing more to compare.
abbrev pub carried : ℕ → ℕ → Option ℕ → ℕ → ℕ
carried number largest place sum = compared (reported number largest place sum) [] []

-- One sample, two samples, and the ends of the 24-bit values: -2^23, the number next below it, 2^23 - 1, the number
-- next above it.
abbrev pub silence : List ℤ
silence = pos 0 ∷ []

abbrev pub two : List ℤ
two = pos 0 ∷ pos 0 ∷ []

abbrev pub ends24 : List ℤ
ends24 = negsuc (2 ^ 23 - 1) ∷ negsuc (2 ^ 23) ∷ pos (2 ^ 23 - 1) ∷ pos (2 ^ 23) ∷ []

-- A call at the C boundary, by whether there is a place and which.
unfoldable pub placed : ℕ → ℕ → ℕ → ℕ
unfolding verdict all24 numbers_ok report_ok
placed number flag place = (left_from (numbers number 0 flag place 0 0) [] []).refusal
