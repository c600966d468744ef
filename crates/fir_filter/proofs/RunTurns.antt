-- The invariant of a run, for any way to add a product: the coefficients go up by a step, the samples go down. Assumes
-- nothing.
use mathlib.Core.Path.{◌≡◌, refl, sym, ap, ◌∙◌}
use mathlib.Core.List.{List, [], ◌∷◌}
use Prim.Native.Nat.{ℕ, zero, suc, ◌+◌, ◌-◌, ◌*◌, ◌≤◌, ◌<◌}
use native.Mathlib.Nat.{add-mul, one-mul, zero-mul}
use native.Mathlib.Omega.{arith}
use lib.ListN.{length, get_or}
use lib.Ieee.{Float, nan}
use Rattle.constants.specs.Numbers.{zero-f}
use Rattle.loop_laws.proofs.Folds.{none, turn}
use Rattle.fir_filter.specs.Runs.{run_of, Visits}

-- Inside a list the element does not depend on what stands for one that is missing.
pub any-default : (xs : List Float) (i : ℕ) (d e : Float) → i < length xs → get_or xs i d ≡ get_or xs i e
any-default [] i d e h = absurd (omega arith)
any-default (x ∷ xs) zero d e h = refl
any-default (x ∷ xs) (suc i) d e h = any-default xs i d e (omega arith)

module _ (to : Float → Float → Float → Float) (coefficients history : List Float) (index step above count : ℕ)
    (start : Float) where
  -- The samples from p on are added.
  pub record Going (end : ℕ) (sum : Float) (i p : ℕ) : Type 0 where
    pub ends : end + count ≡ above
    pub low : end ≤ p
    pub high : p ≤ above
    pub at : i ≡ index + (above - p) * step
    pub so_far : sum ≡ run_of to coefficients history index step above start (above - p)

  pub begun : count ≤ above → Going (above - count) start index above
  begun h =
      let e : above - above ≡ 0 = omega arith in
      record {
        ends = omega arith;
        low = omega arith;
        high = omega arith;
        at = rw (e, zero-mul) (omega arith);
        so_far = rw e (none _ start);
      }

  module _ (end : ℕ) (sum : Float) (i p : ℕ) (g : Going end sum i p) (h : end < p)
      (v : Visits (length coefficients) (length history) index step above count) where
    turns : above - p < count
    turns = omega (arith, g.ends, g.high)

    pub coefficient-there : i < length coefficients
    coefficient-there = omega (arith, g.at, v.inside (above - p) turns)

    pub sample-there : p - 1 < length history
    sample-there = omega (arith, g.high, v.high)

    pub gone : (x : Float) → x ≡ to (get_or coefficients i nan) (get_or history (p - 1) nan) sum
        → Going end x (i + step) (p - 1)
    gone x e =
        let j : above - (p - 1) ≡ above - p + 1 = omega (arith, g.high) in
        let q : above - 1 - (above - p) ≡ p - 1 = omega (arith, g.high) in
        record {
          ends = g.ends;
          low = omega arith;
          high = omega (arith, g.high);
          at = rw j (omega (arith, g.at, add-mul (above - p) 1 step, one-mul step));
          so_far =
              rw j (turn _ start (above - p) sum x g.so_far
              (e ∙ ap (λ (c : Float). to c (get_or history (p - 1) nan) sum)
              (any-default coefficients i nan zero-f coefficient-there
              ∙ ap (λ (k : ℕ). get_or coefficients k zero-f) g.at)
              ∙ ap (λ (k : ℕ). to (get_or coefficients (index + (above - p) * step) zero-f) (get_or history k nan) sum)
              (sym q)));
        }

  pub arrived : (end : ℕ) (sum : Float) (i p : ℕ) → Going end sum i p → p ≤ end
      → sum ≡ run_of to coefficients history index step above start count
  arrived end sum i p g h =
      let e : above - p ≡ count = omega (arith, g.ends, g.low) in
      g.so_far ∙ ap (run_of to coefficients history index step above start) e
