-- The sum over the lags as two straight runs, for any way to add a product: down from the head, then down from the last
-- place. Assumes nothing.
use borrow.Author.Tests.{leb-true, leb-false}
use mathlib.Core.Path.{◌≡◌, refl, sym, ap, ◌∙◌}
use mathlib.Core.Bool.{Bool, true, false, cond}
use mathlib.Core.List.{List}
use mathlib.Core.Logic.{inl, inr, ◌⊎◌}
use Prim.Native.Nat.{ℕ, zero, suc, ◌+◌, ◌-◌, ◌*◌, ◌%◌, ◌≤◌, ◌<◌}
use native.Mathlib.Nat.{add-mul, one-mul, zero-mul}
use native.Mathlib.Omega.{arith}
use lib.Dec.{leb}
use lib.ListN.{length, get_or}
use lib.Ieee.{Float, nan}
use Rattle.constants.specs.Numbers.{zero-f}
use Rattle.loop_laws.specs.Loops.{fold}
use Rattle.loop_laws.proofs.Folds.{split, same}
use Rattle.fir_filter.specs.Filters.{coefficient_at, lagged}
use Rattle.fir_filter.specs.Runs.{run_of, lags_sum, Visits, TwoRuns}
use Rattle.fir_filter.proofs.Places.{first_run, second_run}

-- How many lags the first run has.
abbrev pub first_of : ℕ → ℕ → ℕ
first_of n head = cond (leb n (head + 1)) n (head + 1)

-- All lags, or those down to place 0.
pub record First (n head k : ℕ) : Type 0 where
  pub some : k ≤ n
  pub near : k ≤ head + 1
  pub rest : k < n → k ≡ head + 1

pub first-is : (n head k : ℕ) → k ≡ first_of n head → First n head k
first-is n head k e = go (leb n (head + 1)) refl e
  where
    go : (b : Bool) → leb n (head + 1) ≡ b → k ≡ cond b n (head + 1) → First n head k
    go true h q =
        let l = leb-true n (head + 1) h in
        record { some = omega arith; near = omega arith; rest = λ m. omega arith }
    go false h q =
        let l = leb-false n (head + 1) h in
        record { some = omega arith; near = omega arith; rest = λ m. omega arith }

module _ (taps len head step phase n k : ℕ) (t : TwoRuns taps len head step phase n) (f : First n head k) where
  pub first-visits : Visits taps len phase step (head + 1) k
  first-visits =
      record {
        high = omega (arith, t.placed);
        few = f.near;
        short = t.short;
        inside = λ j l. omega (arith, t.inside j (omega (arith, f.some)));
      }

  pub second-visits : Visits taps len (phase + k * step) step len (n - k)
  second-visits =
      record {
        high = omega arith;
        few = omega (arith, t.most);
        short = t.short;
        inside = λ j l. omega (arith, t.inside (k + j) (omega arith), add-mul k j step);
      }

  -- Neither the product nor the sum overflows.
  pub product_small : k * step ≤ taps + taps
  product_small = go k f.some
    where
      go : (k : ℕ) → k ≤ n → k * step ≤ taps + taps
      go zero l = omega (arith, zero-mul step)
      go (suc m) l =
          let i = t.inside m (omega arith) in
          let e : suc m * step ≡ (m + 1) * step = ap (λ (z : ℕ). z * step) (omega arith) in
          omega (arith, e, add-mul m 1 step, one-mul step, t.short)

  pub sum-small : (k ≡ 0) ⊎ (phase + k * step ≤ taps + taps)
  sum-small = go k f.some
    where
      go : (k : ℕ) → k ≤ n → (k ≡ 0) ⊎ (phase + k * step ≤ taps + taps)
      go zero l = inl refl
      go (suc m) l =
          let i = t.inside m (omega arith) in
          let e : suc m * step ≡ (m + 1) * step = ap (λ (z : ℕ). z * step) (omega arith) in
          inr (omega (arith, e, add-mul m 1 step, one-mul step, t.short))

-- The sums.
module _ (to : Float → Float → Float → Float) (coefficients history : List Float) (head step phase n k : ℕ)
    (t : TwoRuns (length coefficients) (length history) head step phase n) (f : First n head k) where
  abbrev adds : ℕ → Float → Float
  adds lag sum = to (coefficient_at coefficients step phase lag) (lagged history head lag) sum

  first-sum : run_of to coefficients history phase step (head + 1) zero-f k ≡ fold adds zero-f k
  first-sum =
      same _ adds zero-f k
      (λ j l v.
      let i : phase + j * step ≡ j * step + phase = omega arith in
      let p : head + 1 - 1 - j ≡ head - j = omega arith in
      ap (λ (z : ℕ). to (get_or coefficients z zero-f) (get_or history (head + 1 - 1 - j) nan) v) i
      ∙ ap (λ (z : ℕ). to (coefficient_at coefficients step phase j) (get_or history z nan) v)
      (p ∙ sym (first_run head (length history) j t.placed (omega (arith, f.near)))))

  second-sum : (a : Float)
      → run_of to coefficients history (phase + k * step) step (length history) a (n - k)
      ≡ fold (λ (j : ℕ). adds (k + j)) a (n - k)
  second-sum a =
      same _ (λ (j : ℕ). adds (k + j)) a (n - k)
      (λ j l v.
      let e = f.rest (omega arith) in
      let i : phase + k * step + j * step ≡ (k + j) * step + phase = omega (arith, add-mul k j step) in
      ap (λ (z : ℕ). to (get_or coefficients z zero-f) (get_or history (length history - 1 - j) nan) v) i
      ∙ ap (λ (z : ℕ). to (coefficient_at coefficients step phase (k + j)) (get_or history z nan) v)
      (sym (ap (λ (z : ℕ). (head + length history - (z + j)) % length history) e
      ∙ second_run head (length history) j (omega (arith, t.most)))))

  pub joined : run_of to coefficients history (phase + k * step) step (length history)
      (run_of to coefficients history phase step (head + 1) zero-f k) (n - k)
      ≡ lags_sum to coefficients history head step phase n
  joined =
      let e : k + (n - k) ≡ n = omega (arith, f.some) in
      second-sum (run_of to coefficients history phase step (head + 1) zero-f k)
      ∙ ap (λ (a : Float). fold (λ (j : ℕ). adds (k + j)) a (n - k)) first-sum
      ∙ split adds zero-f k (n - k)
      ∙ ap (fold adds zero-f) e
