-- W13 at the C boundary: a report as six numbers. `placed` is 0 or 1; if it is 0 the place is not read and keeps its
-- value. Definitions only.
use Rattle.std.specs.Prelude.{ℕ, ◌-◌, ◌^◌, cond, List, eqb, ℤ, Option, Some, None}
use Rattle.residual.specs.declared.Report.{Report}
use Rattle.residual.specs.declared.Compared.{Compared}
use Rattle.residual.specs.declared.Compared.TheVariants as compared
use Rattle.residual.specs.Refusals.{compared_of}

pub record Numbers : Type 0 where
  pub number : ℕ
  pub largest : ℕ
  pub placed : ℕ
  pub place : ℕ
  pub high : ℕ
  pub low : ℕ

abbrev pub numbers : ℕ → ℕ → ℕ → ℕ → ℕ → ℕ → Numbers
numbers number largest placed place high low = record {
  number = number;
  largest = largest;
  placed = placed;
  place = place;
  high = high;
  low = low;
}

-- A `placed` above 1 stands for the place 2^64 - 1, which is not below any number, so that it is refused by 3.
abbrev pub place_from : ℕ → ℕ → Option ℕ
place_from placed k = cond (eqb placed 0) None (Some (cond (eqb placed 1) k (2 ^ 64 - 1)))

abbrev pub report_from : Numbers → Report
report_from n = record {
  number = n.number;
  largest = n.largest;
  place = place_from n.placed n.place;
  high = n.high;
  low = n.low;
}

abbrev pub placed_of : Option ℕ → ℕ
placed_of None = 0
placed_of (Some k) = 1

abbrev pub index_or : Option ℕ → ℕ → ℕ
index_or None n = n
index_or (Some k) n = k

-- The refusal number, 0 for none.
abbrev pub refusal_of : Compared → ℕ
refusal_of (compared.Carried r) = 0
refusal_of (compared.Refused k) = k

-- The numbers after the call: those of the extended report, or all as they were if the call is refused.
abbrev pub numbers_left : Numbers → Compared → Numbers
numbers_left n (compared.Carried r) =
    numbers r.number r.largest (placed_of r.place) (index_or r.place n.place) r.high r.low
numbers_left n (compared.Refused k) = n

-- What a call leaves: the refusal number, which it returns, and the numbers.
pub record Left : Type 0 where
  pub refusal : ℕ
  pub report : Numbers

abbrev pub leaves : ℕ → Numbers → Left
leaves refusal report = record { refusal = refusal; report = report }

abbrev pub left_by : Numbers → Compared → Left
left_by n c = leaves (refusal_of c) (numbers_left n c)

abbrev pub left_from : Numbers → List ℤ → List ℤ → Left
left_from n xs ys = left_by n (compared_of (report_from n) xs ys)
