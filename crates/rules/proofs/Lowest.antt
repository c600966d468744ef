-- N9, D1b. Each of 01's eight numbers is given exactly if its test fails and all tests before it pass, and none exactly
-- if all pass. The law for any table of tests stands in `refusal_order`; here it is applied to the eight. Assumes
-- nothing.
use mathlib.Core.Path.{◌≡◌, refl}
use mathlib.Core.Logic.{◌↔◌}
use mathlib.Core.Bool.{Bool, true}
use mathlib.Core.List.{List}
use Prim.Native.Nat.{ℕ, suc}
use Rattle.refusal_order.specs.Order.{Test, test_of, line_of, First}
use Rattle.refusal_order.proofs.First as order
use Rattle.answer.specs.Refusals.{eight, lowest_of}

module _ (t1 t2 t3 t4 t5 t6 t7 t8 : Bool) where
  abbrev tests : List Test
  tests = eight t1 t2 t3 t4 t5 t6 t7 t8

  -- The number k + 1, by test k.
  pub lowest : (k : ℕ) → lowest_of t1 t2 t3 t4 t5 t6 t7 t8 ≡ suc k ↔ First tests k
  lowest = order.lowest tests refl

  pub none : lowest_of t1 t2 t3 t4 t5 t6 t7 t8 ≡ 0 ↔ ((j : ℕ) → test_of (line_of tests j) ≡ true)
  none = order.none tests refl
