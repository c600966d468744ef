-- Four turns of a run at once. Assumes nothing.
use mathlib.Core.Path.{◌≡◌, refl, ap, ◌∙◌}
use mathlib.Core.List.{List}
use Prim.Native.Nat.{ℕ, ◌+◌, ◌-◌, ◌*◌, ◌≤◌, ◌<◌}
use native.Mathlib.Nat.{add-mul, one-mul, zero-mul}
use native.Mathlib.Omega.{arith}
use lib.ListN.{length, get_or}
use lib.Ieee.{Float, nan}
use Rattle.constants.specs.Numbers.{zero-f}
use Rattle.loop_laws.specs.Loops.{fold}
use Rattle.loop_laws.proofs.Folds.{split, same}
use Rattle.fir_filter.specs.Runs.{plain_to, run_of, Visits}
use Rattle.fir_filter.proofs.RunTurns.{any-default, Going}

-- The four coefficients are there.
pub record There (taps i step : ℕ) : Type 0 where
  pub first : i < taps
  pub second : i + step < taps
  pub third : i + step + step < taps
  pub fourth : i + step + step + step < taps

pub there : (taps len i step p : ℕ) → Visits taps len i step p 4 → There taps i step
there taps len i step p v =
    record {
      first = omega (arith, v.inside 0 (omega arith), zero-mul step);
      second = omega (arith, v.inside 1 (omega arith), one-mul step);
      third = omega (arith, v.inside 2 (omega arith));
      fourth = omega (arith, v.inside 3 (omega arith));
    }

module _ (coefficients history : List Float) (i step p : ℕ) where
  -- One of the four, as the code and as the definition have it.
  tap : (k a b : ℕ) (s t : Float) → a ≡ i + k * step → b ≡ p - 1 - k → a < length coefficients → s ≡ t
      → plain_to (get_or coefficients a nan) (get_or history b nan) s
      ≡ plain_to (get_or coefficients (i + k * step) zero-f) (get_or history (p - 1 - k) nan) t
  tap k a b s t e q l h =
      ap (λ (c : Float). plain_to c (get_or history b nan) s)
      (any-default coefficients a nan zero-f l ∙ ap (λ (z : ℕ). get_or coefficients z zero-f) e)
      ∙ ap (λ (z : ℕ). plain_to (get_or coefficients (i + k * step) zero-f) (get_or history z nan) s) q
      ∙ ap (plain_to (get_or coefficients (i + k * step) zero-f) (get_or history (p - 1 - k) nan)) h

  pub four-turns : (sum : Float) → There (length coefficients) i step
      → plain_to (get_or coefficients (i + step + step + step) nan) (get_or history (p - 4) nan)
      (plain_to (get_or coefficients (i + step + step) nan) (get_or history (p - 3) nan)
      (plain_to (get_or coefficients (i + step) nan) (get_or history (p - 2) nan)
      (plain_to (get_or coefficients i nan) (get_or history (p - 1) nan) sum)))
      ≡ run_of plain_to coefficients history i step p sum 4
  unfolding fold
  four-turns sum t =
      tap 3 _ _ _ _ (omega arith) (omega arith) t.fourth
      (tap 2 _ _ _ _ (omega arith) (omega arith) t.third
      (tap 1 _ _ _ _ (omega (arith, one-mul step)) (omega arith) t.second
      (tap 0 _ _ _ _ (omega (arith, zero-mul step)) (omega arith) t.first refl)))

-- The loop.
module _ (to : Float → Float → Float → Float) (coefficients history : List Float) (index step above count : ℕ)
    (start : Float) (end : ℕ) (sum : Float) (i p : ℕ)
    (g : Going to coefficients history index step above count start end sum i p) (h : end + 4 ≤ p)
    (v : Visits (length coefficients) (length history) index step above count) where
  abbrev m : ℕ
  m = above - p

  pub visits-four : Visits (length coefficients) (length history) i step p 4
  visits-four =
      record {
        high = omega (arith, g.high, v.high);
        few = omega arith;
        short = v.short;
        inside =
            λ k l. omega (arith, g.at, add-mul m k step, v.inside (m + k) (omega (arith, g.ends, g.high)));
      }

  pub gone-four : (x : Float) → x ≡ run_of to coefficients history i step p sum 4
      → Going to coefficients history index step above count start end x (i + 4 * step) (p - 4)
  gone-four x e =
      let n : above - (p - 4) ≡ m + 4 = omega (arith, g.high) in
      record {
        ends = g.ends;
        low = omega arith;
        high = omega (arith, g.high);
        at = rw n (omega (arith, g.at, add-mul m 4 step));
        so_far =
            rw n
            (e
            ∙ ap (λ (a : Float). run_of to coefficients history i step p a 4) g.so_far
            ∙ same _ _ (run_of to coefficients history index step above start m) 4 shifted
            ∙ split (λ (j : ℕ) (s : Float). to (get_or coefficients (index + j * step) zero-f)
            (get_or history (above - 1 - j) nan) s) start m 4);
      }
    where
      shifted : (k : ℕ) → k < 4 → (s : Float)
          → to (get_or coefficients (i + k * step) zero-f) (get_or history (p - 1 - k) nan) s
          ≡ to (get_or coefficients (index + (m + k) * step) zero-f) (get_or history (above - 1 - (m + k)) nan) s
      shifted k l s =
          let a : i + k * step ≡ index + (m + k) * step = omega (arith, g.at, add-mul m k step) in
          let b : p - 1 - k ≡ above - 1 - (m + k) = omega (arith, g.high) in
          ap (λ (z : ℕ). to (get_or coefficients z zero-f) (get_or history (p - 1 - k) nan) s) a
          ∙ ap (λ (z : ℕ). to (get_or coefficients (index + (m + k) * step) zero-f) (get_or history z nan) s) b
