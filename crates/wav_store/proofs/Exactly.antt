-- W2e, W2f. Exactly which refusal is given: 2 if the slice is not as long as the samples' bytes; otherwise 15 if some
-- sample does not fit; otherwise none. Assumes nothing.
use mathlib.Core.Path.{◌≡◌, refl}
use mathlib.Core.Logic.{◌↔◌}
use mathlib.Core.Bool.{Bool, true, false, cond, ◌&&◌, true≢false}
use mathlib.Core.List.{List, [], ◌∷◌}
use Prim.Native.Nat.{ℕ, zero, suc, ◌*◌, ◌<◌}
use native.Mathlib.Omega.{arith}
use borrow.Author.Tests.{eqb-true, eq-eqb, ne_eqb}
use lib.Dec.{eqb}
use lib.ListN.{length, get_or}
use lib.Ieee.{Float}
use Rattle.sample_kind.specs.declared.SampleKind.{SampleKind}
use Rattle.sample_kind.specs.Kinds.{width_of}
use Rattle.stored_samples.specs.Stored.{fits_in}
use Rattle.wav_store.specs.Storing.{all_fit, verdict}

module _ (kind : SampleKind) (d : Float) where
  -- Sample k, counted from 0, does not fit.
  abbrev pub Outside : List Float → ℕ → Type 0
  Outside xs k = (k < length xs) × (fits_in kind (get_or xs k d) ≡ false)

  some-outside : (xs : List Float) → all_fit kind xs ≡ false → (k : ℕ) × Outside xs k
  unfolding all_fit
  some-outside [] e = absurd (true≢false e)
  some-outside (x ∷ xs) e = by (fits_in kind x) refl e (some-outside xs)
    where
      by : (t : Bool) → fits_in kind x ≡ t → (t && all_fit kind xs) ≡ false
          → (all_fit kind xs ≡ false → (k : ℕ) × Outside xs k) → (k : ℕ) × Outside (x ∷ xs) k
      by true i h more = let (k, o) = more h in (suc k, (omega (arith, o.0), o.1))
      by false i h more = (zero, (omega arith, i))

  not-all : (xs : List Float) (k : ℕ) → Outside xs k → all_fit kind xs ≡ false
  unfolding all_fit
  not-all [] k o = absurd (omega (arith, o.0))
  not-all (x ∷ xs) zero o = rw o.1
  not-all (x ∷ xs) (suc k) o = rw (not-all xs k (omega (arith, o.0), o.1)) (never (fits_in kind x))
    where
      never : (t : Bool) → (t && false) ≡ false
      never true = refl
      never false = refl

  module _ (xs : List Float) (n : ℕ) where
    abbrev whole : Bool
    whole = eqb n (length xs * width_of kind)

    tests : (r : ℕ) → verdict kind xs n ≡ r → cond whole (cond (all_fit kind xs) 0 15) 2 ≡ r
    unfolding verdict
    tests r e = e

    back : (r : ℕ) → cond whole (cond (all_fit kind xs) 0 15) 2 ≡ r → verdict kind xs n ≡ r
    unfolding verdict
    back r e = e

    pub two : verdict kind xs n ≡ 2 ↔ (n ≡ length xs * width_of kind → ⊥)
    two = (
      (λ e i. by (all_fit kind xs) (rw (eq-eqb n (length xs * width_of kind) i) at (tests 2 e))),
      (λ h. back 2 (rw (ne_eqb n (length xs * width_of kind) h))),
    )
      where
        by : (t : Bool) → ◌≡◌ {A = ℕ} (cond t 0 15) 2 → ⊥
        by true e = omega arith
        by false e = omega arith

    pub fifteen : verdict kind xs n ≡ 15 ↔ ((n ≡ length xs * width_of kind) × ((k : ℕ) × Outside xs k))
    fifteen = (
      (λ e. by whole (all_fit kind xs) refl refl (tests 15 e)),
      (λ h. back 15 (rw (eq-eqb n (length xs * width_of kind) h.0, not-all xs h.1.0 h.1.1))),
    )
      where
        by : (t u : Bool) → whole ≡ t → all_fit kind xs ≡ u → ◌≡◌ {A = ℕ} (cond t (cond u 0 15) 2) 15
            → (n ≡ length xs * width_of kind) × ((k : ℕ) × Outside xs k)
        by true true i j e = absurd (omega arith)
        by true false i j e = (eqb-true n (length xs * width_of kind) i, some-outside xs j)
        by false u i j e = absurd (omega arith)
