-- W13g. Each of 1, 2, 3 and 8 is given exactly if its test is the first of the table that fails, and none exactly if
-- all hold. Assumes nothing.
use Rattle.std.proofs.Common.{◌≡◌, ℕ, suc, true, ◌↔◌, List, ℤ, refl}
use Rattle.refusal_order.specs.Order.{test_of, number_of, line_of, First}
use Rattle.refusal_order.proofs.First as order
use Rattle.residual.specs.declared.Report.{Report}
use Rattle.residual.specs.Refusals.{tests, verdict}

pub exactly : (r : Report) (xs ys : List ℤ) (n : ℕ)
    → verdict r xs ys ≡ suc n ↔ ((k : ℕ) × (First (tests r xs ys) k × number_of (line_of (tests r xs ys) k) ≡ suc n))
unfolding verdict
exactly r xs ys n = order.exactly (tests r xs ys) n

pub none : (r : Report) (xs ys : List ℤ)
    → verdict r xs ys ≡ 0 ↔ ((k : ℕ) → test_of (line_of (tests r xs ys) k) ≡ true)
unfolding verdict
none r xs ys = order.none (tests r xs ys) refl
