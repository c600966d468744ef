-- What `output` sums: the head for the number of pushes, a step for the factor, and only the lags that have a
-- coefficient. Assumes nothing.
use borrow.Author.Tests.{leb-true, leb-false, le-leb}
use mathlib.Core.Path.{◌≡◌, refl, sym, ap, ◌∙◌}
use mathlib.Core.Bool.{Bool, true, false, cond}
use mathlib.Core.List.{List}
use Prim.Native.Nat.{ℕ, zero, suc, ◌+◌, ◌-◌, ◌*◌, ◌%◌, ◌≤◌, ◌<◌}
use native.Mathlib.Nat.{add-mul, one-mul, zero-mul, add-zero, zero-add, add-suc}
use native.Mathlib.Omega.{arith}
use lib.Dec.{leb}
use lib.ListN.{length, get_or, get_or-eq_default}
use lib.Ieee.{Float, nan, eq}
use lib.Ieee.Scale.{finite}
use denote.Floats.{passes}
use Rattle.constants.specs.Numbers.{zero-f}
use Rattle.loop_laws.specs.Loops.{fold}
use Rattle.loop_laws.proofs.Folds.{same}
use Rattle.fir_filter.specs.Filters.{add_to, coefficient_at, lagged, output_of}
use Rattle.fir_filter.specs.Runs.{plain_to, lags_sum, Lags}
use Rattle.fir_filter.proofs.Places.{head-place}
use Rattle.fir_filter.proofs.LeftOut.{left_out}

-- A factor above the number of taps leaves the first lag alone, as that number itself does.
abbrev pub step_of : ℕ → ℕ → ℕ
step_of factor taps = cond (leb factor taps) factor taps

pub smaller : (factor taps step : ℕ) → step ≡ step_of factor taps → step ≤ taps
smaller factor taps step e = go (leb factor taps) refl e
  where
    go : (b : Bool) → leb factor taps ≡ b → step ≡ cond b factor taps → step ≤ taps
    go true h q = let l = leb-true factor taps h in omega arith
    go false h q = omega arith

pub above_zero : (factor taps step : ℕ) → step ≡ step_of factor taps → 0 < factor → 0 < taps → 0 < step
above_zero factor taps step e p q = go (leb factor taps) e
  where
    go : (b : Bool) → step ≡ cond b factor taps → 0 < step
    go true h = omega arith
    go false h = omega arith

pub whole-step : (factor step taps : ℕ) → factor ≡ step → step ≤ taps → step ≡ step_of factor taps
whole-step factor step taps e h = rw (e, le-leb step taps h)

beyond : (cs : List Float) (step phase k : ℕ) → length cs ≤ step → coefficient_at cs step phase (suc k) ≡ zero-f
beyond cs step phase k h =
    get_or-eq_default cs zero-f
    (let e : suc k * step ≡ (k + 1) * step = ap (λ (z : ℕ). z * step) (omega arith) in
    omega (arith, e, add-mul k 1 step, one-mul step))

same-coefficient : (cs : List Float) (factor phase lag : ℕ)
    → coefficient_at cs factor phase lag ≡ coefficient_at cs (step_of factor (length cs)) phase lag
same-coefficient cs factor phase lag = go (leb factor (length cs)) refl lag
  where
    go : (b : Bool) → leb factor (length cs) ≡ b → (lag : ℕ)
        → coefficient_at cs factor phase lag ≡ coefficient_at cs (cond b factor (length cs)) phase lag
    go true h lag = refl
    go false h zero =
        ap (λ (z : ℕ). get_or cs (z + phase) zero-f) (zero-mul factor ∙ sym (zero-mul (length cs)))
    go false h (suc k) =
        let l = leb-false factor (length cs) h in
        beyond cs factor phase k (omega arith) ∙ sym (beyond cs (length cs) phase k (omega arith))

-- Lags that change nothing.
idle : (step : ℕ → Float → Float) (a : Float) (n k : ℕ)
    → ((j : ℕ) → n ≤ j → j < n + k → (v : Float) → step j v ≡ v) → fold step a (n + k) ≡ fold step a n
unfolding fold
idle step a n zero h = ap (fold step a) (add-zero n)
idle step a n (suc k) h =
    ap (fold step a) (add-suc n k)
    ∙ h (n + k) (omega arith) (omega arith) (fold step a (n + k))
    ∙ idle step a n k (λ j l m v. h j l (omega arith) v)

nothing-added : (x v : Float) → add_to zero-f x v ≡ v
unfolding eq
nothing-added x v = refl

module _ (cs history : List Float) (pushes factor phase : ℕ) where
  abbrev step : ℕ
  step = step_of factor (length cs)

  abbrev head : ℕ
  head = pushes % length history

  pub output-is : output_of cs history pushes factor phase
      ≡ lags_sum add_to cs history head step phase (length history)
  unfolding output_of
  output-is =
      same _ _ zero-f (length history)
      (λ lag l v.
      ap (λ (c : Float). add_to c (lagged history pushes lag) v) (same-coefficient cs factor phase lag)
      ∙ ap (λ (p : ℕ). add_to (coefficient_at cs step phase lag) (get_or history p nan) v)
      (sym (head-place pushes (length history) lag l)))

  -- As the code has them.
  module _ (at by n : ℕ) (h : at ≡ head) (b : by ≡ step) (r : Lags (length cs) (length history) by phase n) where
    pub tested-sum : lags_sum add_to cs history at by phase n ≡ output_of cs history pushes factor phase
    tested-sum =
        let e : n + (length history - n) ≡ length history = omega (arith, r.most) in
        sym (output-is
        ∙ ap (λ (z : ℕ). lags_sum add_to cs history z step phase (length history)) (sym h)
        ∙ ap (λ (z : ℕ). lags_sum add_to cs history at z phase (length history)) (sym b)
        ∙ ap (lags_sum add_to cs history at by phase) (sym e)
        ∙ idle _ zero-f n (length history - n)
        (λ j l m v.
        ap (λ (c : Float). add_to c (lagged history at j) v)
        (get_or-eq_default cs zero-f (r.beyond j l (omega arith)))
        ∙ nothing-added (lagged history at j) v))

    pub plain-sum : (x : Float) → x ≡ lags_sum plain_to cs history at by phase n → finite x ≡ true
        → x ≡ output_of cs history pushes factor phase
    plain-sum x e f =
        e
        ∙ (left_out (coefficient_at cs by phase) (lagged history at) n (passes _ (ap finite (sym e) ∙ f))).equal
        ∙ tested-sum

-- Past the last coefficient there is nothing to add.
pub beyond-taps : (cs history : List Float) (pushes factor phase : ℕ) → length cs ≤ phase
    → zero-f ≡ output_of cs history pushes factor phase
unfolding output_of fold
beyond-taps cs history pushes factor phase h =
    sym (ap (fold (λ (lag : ℕ) (sum : Float). add_to (coefficient_at cs factor phase lag) (lagged history pushes lag)
    sum)
    zero-f) (sym (zero-add (length history)))
    ∙ idle _ zero-f 0 (length history)
    (λ j l m v.
    ap (λ (c : Float). add_to c (lagged history pushes j) v) (get_or-eq_default cs zero-f (omega arith))
    ∙ nothing-added (lagged history pushes j) v))
