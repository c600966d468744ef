-- Several phases in one pass: what the last one visits is there for the others, and each has at most one lag more.
-- Assumes nothing.
use borrow.Author.Tests.{ltb-true, ltb-false, lt-ltb, le-ltb}
use mathlib.Core.Path.{◌≡◌, refl, ap, ◌∙◌}
use mathlib.Core.Bool.{Bool, true, false, cond, ◌&&◌}
use mathlib.Core.List.{List}
use mathlib.Core.Logic.{inl, inr, ◌⊎◌}
use Prim.Native.Nat.{ℕ, zero, suc, ◌+◌, ◌-◌, ◌*◌, ◌%◌, ◌≤◌, ◌<◌}
use native.Mathlib.Nat.{add-mul, one-mul, zero-mul, mul-le-mul_right}
use native.Mathlib.Omega.{arith}
use lib.Dec.{ltb}
use lib.ListN.{length, get_or}
use lib.Ieee.{Float, nan}
use Rattle.constants.specs.Numbers.{zero-f}
use Rattle.loop_laws.proofs.Folds.{turn}
use Rattle.fir_filter.specs.Filters.{coefficient_at, lagged}
use Rattle.fir_filter.specs.declared.Two.{Two}
use Rattle.fir_filter.specs.declared.Four.{Four}
use Rattle.fir_filter.specs.Runs.{plain_to, run_of, lags_sum, Lags, Visits, TwoRuns}
use Rattle.fir_filter.specs.Pairs.{two_of, four_of, last_of}
use Rattle.fir_filter.proofs.RunTurns.{any-default}
use Rattle.fir_filter.proofs.Joined.{First, joined}

pub earlier-visits : {taps len late early step above count : ℕ} → early ≤ late → Visits taps len late step above count
    → Visits taps len early step above count
earlier-visits h v =
    record {
      high = v.high;
      few = v.few;
      short = v.short;
      inside = λ j l. omega (arith, v.inside j l);
    }

pub earlier-runs : {taps len head step late early n : ℕ} → early ≤ late → TwoRuns taps len head step late n
    → TwoRuns taps len head step early n
earlier-runs h t =
    record {
      placed = t.placed;
      short = t.short;
      most = t.most;
      inside = λ j l. omega (arith, t.inside j l);
    }

-- The same of a phase and the next one.
pub first-visits : {taps len index step above count : ℕ} → Visits taps len (index + 1) step above count
    → Visits taps len index step above count
first-visits v =
    record {
      high = v.high;
      few = v.few;
      short = v.short;
      inside = λ j l. omega (arith, v.inside j l);
    }

pub first_runs : {taps len head step phase n : ℕ} → TwoRuns taps len head step (phase + 1) n
    → TwoRuns taps len head step phase n
first_runs t =
    record {
      placed = t.placed;
      short = t.short;
      most = t.most;
      inside = λ j l. omega (arith, t.inside j l);
    }

-- The index of the second phase in the second run, as the code has it.
pub moved-visits : (taps len phase k step above count : ℕ) → Visits taps len (phase + 1 + k * step) step above count
    → Visits taps len (phase + k * step + 1) step above count
moved-visits taps len phase k step above count v =
    record {
      high = v.high;
      few = v.few;
      short = v.short;
      inside = λ j l. omega (arith, v.inside j l);
    }

-- The lags of a phase, from those of a later one that is at most a step behind it.
module _ (taps len step phase more n : ℕ) (P : more ≤ step) (r : Lags taps len step (phase + more) n) where
  one_more : n < len → n * step + phase < taps → Lags taps len step phase (n + 1)
  one_more h l =
      record {
        most = omega arith;
        inside = λ j k. let g : j ≤ n = omega arith in omega (arith, mul-le-mul_right step g);
        beyond = λ j k m.
            omega (arith, r.beyond n (omega arith) h, mul-le-mul_right step k, add-mul n 1 step, one-mul step);
      }

  no_more : (n < len → taps ≤ n * step + phase) → Lags taps len step phase n
  no_more h =
      record {
        most = r.most;
        inside = λ j k. omega (arith, r.inside j k);
        beyond = λ j k m. omega (arith, h (omega arith), mul-le-mul_right step k);
      }

-- Such a phase's sum, with its last lag.
module _ (cs history : List Float) (at step phase more n : ℕ) (P : more ≤ step)
    (r : Lags (length cs) (length history) step (phase + more) n) where
  abbrev sum_to : ℕ → Float
  sum_to m = lags_sum plain_to cs history at step phase m

  pub with-last : (m : ℕ) × (Lags (length cs) (length history) step phase m)
      × (last_of cs history at step phase n (sum_to n) ≡ sum_to m)
  with-last = go (ltb n (length history)) (ltb (n * step + phase) (length cs)) refl refl
    where
      go : (a b : Bool) → ltb n (length history) ≡ a → ltb (n * step + phase) (length cs) ≡ b
          → (m : ℕ) × (Lags (length cs) (length history) step phase m)
          × (cond (a && b) (plain_to (coefficient_at cs step phase n) (lagged history at n) (sum_to n)) (sum_to n)
          ≡ sum_to m)
      go true true p q = (
        n + 1,
        one_more _ _ _ _ _ _ P r (ltb-true _ _ p) (ltb-true _ _ q),
        turn (λ (lag : ℕ) (s : Float). plain_to (coefficient_at cs step phase lag) (lagged history at lag) s) zero-f n
            (sum_to n) _ refl refl,
      )
      go true false p q = (n, no_more _ _ _ _ _ _ P r (λ h. ltb-false _ _ q), refl)
      go false b p q =
          let l = ltb-false n (length history) p in (n, no_more _ _ _ _ _ _ P r (λ h. absurd (omega arith)), refl)

-- Neither the product nor the sum of the last lag's index overflows.
pub index-small : {taps len head step phase : ℕ} (n : ℕ) → TwoRuns taps len head step phase n
    → (n * step ≤ taps + taps) × ((n ≡ 0) ⊎ (n * step + phase ≤ taps + taps))
index-small {step = step} zero t = (omega (arith, zero-mul step), inl refl)
index-small {step = step} (suc m) t =
    let i = t.inside m (omega arith) in
    let e : suc m * step ≡ (m + 1) * step = ap (λ (z : ℕ). z * step) (omega arith) in (
      omega (arith, e, add-mul m 1 step, one-mul step, t.short),
      inr (omega (arith, e, add-mul m 1 step, one-mul step, t.short)),
    )

-- The last lag, by the two tests of the code.
module _ (cs history : List Float) (head step phase lag : ℕ) (sum : Float) where
  pub no-sample : length history ≤ lag → sum ≡ last_of cs history head step phase lag sum
  no-sample h = rw (le-ltb lag (length history) h)

  module _ (h : lag < length history) where
    pub no-coefficient : length cs ≤ lag * step + phase → sum ≡ last_of cs history head step phase lag sum
    no-coefficient l = rw (lt-ltb lag (length history) h, le-ltb (lag * step + phase) (length cs) l)

    pub added : (p : ℕ) → p ≡ (head + length history - lag) % length history → lag * step + phase < length cs
        → plain_to (get_or cs (lag * step + phase) nan) (get_or history p nan) sum
        ≡ last_of cs history head step phase lag sum
    added p e l =
        rw (lt-ltb lag (length history) h, lt-ltb (lag * step + phase) (length cs) l)
        (ap (λ (c : Float). plain_to c (get_or history p nan) sum) (any-default cs (lag * step + phase) nan zero-f l)
        ∙ ap (λ (z : ℕ). plain_to (coefficient_at cs step phase lag) (get_or history z nan) sum) e)

-- Both sums over the lags that both phases have, from the two runs of the code.
module _ (cs history : List Float) (head step phase n k : ℕ)
    (t : TwoRuns (length cs) (length history) head step (phase + 1) n) (f : First n head k) where
  pub both-joined : (both r : Two)
      → both
      ≡ two_of (run_of plain_to cs history phase step (head + 1) zero-f k)
      (run_of plain_to cs history (phase + 1) step (head + 1) zero-f k)
      → r
      ≡ two_of (run_of plain_to cs history (phase + k * step) step (length history) both.first (n - k))
      (run_of plain_to cs history (phase + k * step + 1) step (length history) both.second (n - k))
      → r
      ≡ two_of (lags_sum plain_to cs history head step phase n) (lags_sum plain_to cs history head step (phase + 1) n)
  both-joined both r e h =
      let i : phase + k * step + 1 ≡ phase + 1 + k * step = omega arith in
      h
      ∙ ap (λ (b : Two). two_of
      (run_of plain_to cs history (phase + k * step) step (length history) b.first (n - k))
      (run_of plain_to cs history (phase + k * step + 1) step (length history) b.second (n - k))) e
      ∙ ap (λ (x : Float). two_of x (run_of plain_to cs history (phase + k * step + 1) step (length history)
      (run_of plain_to cs history (phase + 1) step (head + 1) zero-f k) (n - k)))
      (joined plain_to cs history head step phase n k (earlier-runs (omega arith) t) f)
      ∙ ap (λ (z : ℕ). two_of (lags_sum plain_to cs history head step phase n)
      (run_of plain_to cs history z step (length history)
      (run_of plain_to cs history (phase + 1) step (head + 1) zero-f k) (n - k))) i
      ∙ ap (two_of (lags_sum plain_to cs history head step phase n))
      (joined plain_to cs history head step (phase + 1) n k t f)

-- The same of the four phases of a factor.
module _ (cs history : List Float) (head step n k : ℕ)
    (t : TwoRuns (length cs) (length history) head step 3 n) (f : First n head k) where
  abbrev second_run : ℕ → Float → Float
  second_run index start = run_of plain_to cs history index step (length history) start (n - k)

  abbrev first_run : ℕ → Float
  first_run index = run_of plain_to cs history index step (head + 1) zero-f k

  -- The index of a phase in the second run, as the code has it.
  one-joined : (phase index : ℕ) → phase ≤ 3 → index ≡ phase + k * step
      → second_run index (first_run phase) ≡ lags_sum plain_to cs history head step phase n
  one-joined phase index h e =
      ap (λ (z : ℕ). second_run z (first_run phase)) e
      ∙ joined plain_to cs history head step phase n k (earlier-runs h t) f

  pub all-joined : (all r : Four) → all ≡ four_of (first_run 0) (first_run 1) (first_run 2) (first_run 3)
      → r
      ≡ four_of (second_run (k * step) all.first) (second_run (k * step + 1) all.second)
      (second_run (k * step + 2) all.third) (second_run (k * step + 3) all.fourth)
      → r
      ≡ four_of (lags_sum plain_to cs history head step 0 n) (lags_sum plain_to cs history head step 1 n)
      (lags_sum plain_to cs history head step 2 n) (lags_sum plain_to cs history head step 3 n)
  all-joined all r e h =
      h
      ∙ rw e
      (rw (
        one-joined 0 (k * step) (omega arith) (omega arith),
        one-joined 1 (k * step + 1) (omega arith) (omega arith),
        one-joined 2 (k * step + 2) (omega arith) (omega arith),
        one-joined 3 (k * step + 3) (omega arith) (omega arith),
      ))
