-- W13. The numbers of a carried report: what the test shows, and the returns of `numbers_ok`. Assumes nothing.
use mathlib.Core.Path.{◌≡◌, ◌∙◌}
use mathlib.Core.Bool.{Bool, true, false, ◌&&◌}
use Prim.Native.Nat.{ℕ, ◌-◌, ◌*◌, ◌^◌, ◌≤◌, ◌<◌}
use native.Mathlib.Omega.{arith}
use borrow.Author.Tests.{leb-true, le-leb, lt-leb}
use lib.Dec.{leb}
use Rattle.report_tests.specs.Tests.{sum_ok, numbers_ok}
use Rattle.report_tests.proofs.BothTests.{left-true, right-true, both_true}

pub record InRange (n l s : ℕ) : Type 0 where
  pub few : n ≤ 2 ^ 36
  pub small : l < 2 ^ 24
  pub least : l * l ≤ s
  pub most : s ≤ n * (l * l)

pub numbers-in : (n l s : ℕ) → numbers_ok n l s ≡ true → InRange n l s
unfolding numbers_ok
numbers-in n l s h =
    let more = leb l (2 ^ 24 - 1) && sum_ok n l s in
    let h2 = right-true (leb n (2 ^ 36)) more h in
    let h3 = right-true (leb l (2 ^ 24 - 1)) (sum_ok n l s) h2 in
    record {
      few = leb-true n (2 ^ 36) (left-true (leb n (2 ^ 36)) more h);
      small = omega (arith, leb-true l (2 ^ 24 - 1) (left-true (leb l (2 ^ 24 - 1)) (sum_ok n l s) h2));
      least = leb-true (l * l) s (left-true (leb (l * l) s) (leb s (n * (l * l))) h3);
      most = leb-true s (n * (l * l)) (right-true (leb (l * l) s) (leb s (n * (l * l))) h3);
    }

pub in-numbers : (n l s : ℕ) → InRange n l s → numbers_ok n l s ≡ true
unfolding numbers_ok
in-numbers n l s v =
    both_true (le-leb n (2 ^ 36) v.few) (both_true (le-leb l (2 ^ 24 - 1) (omega (arith, v.small)))
    (both_true (le-leb (l * l) s v.least) (le-leb s (n * (l * l)) v.most)))

-- ---- the returns of `numbers_ok`
pub too_many : (n l s : ℕ) → 2 ^ 36 < n → false ≡ numbers_ok n l s
unfolding numbers_ok
too_many n l s h = rw (lt-leb n (2 ^ 36) h)

pub too_large : (n l s : ℕ) → n ≤ 2 ^ 36 → 2 ^ 24 - 1 < l → false ≡ numbers_ok n l s
unfolding numbers_ok
too_large n l s few h = rw (le-leb n (2 ^ 36) few, lt-leb l (2 ^ 24 - 1) h)

pub in-range : (n l s : ℕ) {b : Bool} → n ≤ 2 ^ 36 → l ≤ 2 ^ 24 - 1 → b ≡ sum_ok n l s → b ≡ numbers_ok n l s
unfolding numbers_ok
in-range n l s few small e = e ∙ rw (le-leb n (2 ^ 36) few, le-leb l (2 ^ 24 - 1) small)
