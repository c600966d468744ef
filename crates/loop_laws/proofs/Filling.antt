-- The invariant of a loop that lends the rows `&mut table[p * width..p * width + width]` of a table one after the
-- other, for any rule for a row. Assumes nothing.
use mathlib.Core.Path.{◌≡◌, ap, ◌∙◌}
use mathlib.Core.List.{List, ◌++◌}
use Prim.Native.Nat.{ℕ, ◌+◌, ◌-◌, ◌*◌, ◌≤◌, ◌<◌}
use native.Mathlib.Nat.{add-mul, one-mul, mul-le-mul_right}
use native.Mathlib.Omega.{arith}
use lib.ListN.{length, take, drop}
use lib.Ieee.{Float}
use Rattle.loop_laws.specs.Loops.{rows}
use Rattle.loop_laws.proofs.Rows.{no_row, row_more, length-after, all-rows, length_part}

-- The first p of n rows are written.
pub record Filled (f : ℕ → List Float) (width n : ℕ) (xs : List Float) (p : ℕ) : Type 0 where
  pub long : length xs ≡ n * width
  pub most : p ≤ n
  pub front : take (p * width) xs ≡ rows f p

-- Row p as it is lent, and the table when ys has come back in its place.
abbrev pub lent_row : ℕ → List Float → ℕ → List Float
lent_row width xs p = take (p * width + width - p * width) (drop (p * width) xs)

abbrev pub with_row : ℕ → List Float → ℕ → List Float → List Float
with_row width xs p ys = take (p * width) xs ++ (ys ++ drop (p * width + width - p * width) (drop (p * width) xs))

module _ (f : ℕ → List Float) (width n : ℕ) where
  pub unfilled : (xs : List Float) → length xs ≡ n * width → Filled f width n xs 0
  unfilled xs l = record { long = l; most = omega arith; front = no_row f width xs }

  pub row-end : (p : ℕ) → p < n → p * width + width ≤ n * width
  row-end p h =
      let g : p + 1 ≤ n = omega arith in omega (arith, add-mul p 1 width, one-mul width, mul-le-mul_right width g)

  module _ (xs : List Float) (p : ℕ) (i : Filled f width n xs p) (h : p < n) where
    width_is : p * width + width - p * width ≡ width
    width_is = omega arith

    fits : p * width + width ≤ length xs
    fits = omega (arith, row-end p h, i.long)

    pub length-lent : length (lent_row width xs p) ≡ width
    length-lent = length_part xs (p * width) _ width width_is fits

    pub filled_more : (ys : List Float) → ys ≡ f p → length (f p) ≡ width
        → Filled f width n (with_row width xs p ys) (p + 1)
    filled_more ys e w =
        let l = ap length e ∙ w in
        record {
          long = length-after f width xs ys p _ width_is fits l ∙ i.long;
          most = omega arith;
          front = row_more f width xs ys p _ width_is fits l e i.front;
        }

  pub filled : (xs : List Float) (p : ℕ) → Filled f width n xs p → p ≡ n → xs ≡ rows f n
  filled xs p i e = all-rows f width xs n i.long (rw e at i.front)
