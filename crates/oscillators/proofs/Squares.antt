-- A list of depths that is read from the front: the rest of it, with the sum so far, gives what the whole list gives.
-- Assumes nothing.
use mathlib.Core.Path.{◌≡◌, ap, ◌∙◌}
use mathlib.Core.Bool.{true, false}
use mathlib.Core.List.{List, ◌∷◌}
use Prim.Native.Nat.{ℕ, ◌+◌, ◌<◌}
use native.Mathlib.Numerals.{add-one}
use lib.ListN.{length, drop, get_or}
use lib.Seq.{drop-cons}
use lib.Ieee.{Float, nan, binary64, add, mul}
use Rattle.oscillator_ranges.specs.Ranges.{depth_ok}
use Rattle.oscillator_arithmetic.specs.Arithmetic.{speed_delta, squares_from}
use Rattle.oscillators.specs.Answers.{depths_ok}

module _ (xs : List Float) (i : ℕ) (h : i < length xs) where
  front : drop i xs ≡ get_or xs i nan ∷ drop (i + 1) xs
  front = rw (add-one i) (drop-cons xs i nan h)

  pub one_more : (sum : Float)
      → squares_from sum (drop i xs)
      ≡ squares_from (add binary64 sum (mul binary64 (speed_delta (get_or xs i nan)) (speed_delta (get_or xs i nan))))
      (drop (i + 1) xs)
  unfolding squares_from
  one_more sum = ap (squares_from sum) front

  pub passes : depth_ok (get_or xs i nan) ≡ true → depths_ok (drop i xs) ≡ depths_ok (drop (i + 1) xs)
  unfolding depths_ok
  passes p = ap depths_ok front ∙ rw p

  pub fails : depth_ok (get_or xs i nan) ≡ false → depths_ok (drop i xs) ≡ false
  unfolding depths_ok
  fails p = ap depths_ok front ∙ rw p
