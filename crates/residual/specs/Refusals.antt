-- W13g, W13h. By which number a call is refused, in the order of 01, and what a call answers. Definitions only.
use Rattle.std.specs.Prelude.{ℕ, zero, suc, Bool, ◌&&◌, List, [], ◌∷◌, length, ℤ, ◌==◌, nat_eq, nat_lt}
use Rattle.std.specs.Prelude.{Option, Some, None}
use Rattle.refusal_order.specs.Order.{Test, ◌unless◌, first_of}
pub use Rattle.report_tests.specs.Tests.{in24, room_for}
unfoldable pub use Rattle.report_tests.specs.Tests.{all24, numbers_ok}
use Rattle.residual.specs.declared.Report.{Report}
use Rattle.residual.specs.declared.Compared.{Compared}
use Rattle.residual.specs.declared.Compared.TheVariants as compared
use Rattle.residual.specs.Report.{sum_of, carried}

-- Test 3: an empty report has no place, any other one below its number.
abbrev pub place_ok : Option ℕ → ℕ → Bool
place_ok None n = n == 0
place_ok (Some k) n = nat_lt k n

-- Test 3: the number, the largest difference, the sum and the place of the carried report are in range.
unfoldable pub report_ok : Report → Bool
report_ok r = place_ok r.place r.number && numbers_ok r.number r.largest (sum_of r)

-- 1 means a value outside 24 bits, 2 unequal lengths, 3 a carried report out of range, 8 more than 2^36 samples, and 0
-- no refusal.
abbrev pub tests : Report → List ℤ → List ℤ → List Test
tests r xs ys =
    1 unless (all24 xs && all24 ys)
    ∷ 2 unless nat_eq (length xs) (length ys)
    ∷ 3 unless report_ok r
    ∷ 8 unless room_for r.number (length xs)
    ∷ []

unfoldable pub verdict : Report → List ℤ → List ℤ → ℕ
verdict r xs ys = first_of (tests r xs ys)

-- W13h. A refused call adds nothing: the caller's report is still the report.
abbrev pub answer_of : ℕ → Report → Compared
answer_of zero r = compared.Carried r
answer_of (suc k) r = compared.Refused (suc k)

abbrev pub compared_of : Report → List ℤ → List ℤ → Compared
compared_of r xs ys = answer_of (verdict r xs ys) (carried r xs ys)
