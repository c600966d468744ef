-- The sums over the direct reader's inner readings, from which of its inner samples were accepted. In an accepted call
-- those are the finite ones (W11d); if the inner accepted number grew by the factor, all were. Assumes nothing.
use Rattle.std.proofs.Common.{◌≡◌, ℕ, zero, suc, ◌+◌, ◌<◌, ◌≤◌, Bool, true, false, T, length, sym, refl, ap, ◌∙◌, subst}
use Rattle.std.proofs.Common.{⊎_elim, eq-or-lt_of_le, arith}
use lib.Ieee.{Float, binary64, fits}
use lib.Ieee.Scale.{finite}
use Rattle.high_delay.specs.Between.{high_delay}
use Rattle.kernels.specs.declared.Kernel.{Kernel}
use Rattle.fir_filter.specs.Filters.{pushed}
use Rattle.variable_delay.specs.Reader.{verdict}
use Rattle.oversampled_delay.specs.Phases.{Turn, High, inner_of, raised_of, delay_of, phase_of, phases_of}
use Rattle.oversampled_delay.specs.Reader.{Lent, lengths_of, due_of, from_of}
use Rattle.oversampled_delay.specs.declared.OversampledVariableDelay.{OversampledVariableDelay}
use Rattle.oversampled_delay.proofs.Inner.{phases-inner, phases-ring}
use Rattle.oversampled_runs.proofs.Inside.{turn, start, inside}
use Rattle.told_oversampled.specs.Direct.{phases_absent}
use Rattle.told_oversampled.specs.Reckoned.{which_of, sums_of, with_reading, reckoned, phases_accepted}
use Rattle.told_oversampled.proofs.OneReading.{one-reading, advanced, every_one}

module _ (k : Kernel) (d : OversampledVariableDelay) (l : Lent) (x y : Float)
    (taken : due_of k d (lengths_of l) x y ≡ 0) (f : T (fits binary64 (from_of d y))) where
  abbrev t : Turn
  t = turn k d l x y taken

  abbrev h : High
  h = start k d l x y taken

  abbrev ys : ℕ → Float
  ys j = high_delay (from_of d y) y (j + 1) d.factor

  -- The first j readings, if `ok` says which samples are finite.
  pub sums : (ok : ℕ → Bool) → ((j : ℕ) → j < d.factor → ok j ≡ finite (raised_of t j)) → (n j : ℕ) → j ≤ d.factor
      → reckoned ok ys (length l.ring) n d.inner j ≡ sums_of (phases_of t h j).inner (phases_absent n t h j)
  unfolding reckoned phases_of phases_absent phase_of
  sums ok e n zero b = refl
  sums ok e n (suc j) b =
      let g = phases_of t h j in
      ap (with_reading (ok j) (length l.ring) (ys j) n) (sums ok e n j (omega arith))
      ∙ ap (λ (b : Bool). with_reading b (length l.ring) (ys j) n (sums_of g.inner (phases_absent n t h j)))
      (e j (omega arith))
      ∙ ap (λ (len : ℕ). with_reading (finite (raised_of t j)) len (ys j) n (sums_of g.inner (phases_absent n t h j)))
      (sym (phases-ring t h j))
      ∙ one-reading n (inner_of d g.inner) g.ring (raised_of t j) (delay_of t j) (finite (raised_of t j))
      (verdict true true (inner_of d g.inner) (length g.ring) (raised_of t j) (delay_of t j))
      (inside k d l x y taken f j (omega arith)) (phases_absent n t h j)

  -- If the inner accepted number grew by n in n phases, then each of their samples was finite.
  pub all-finite : (n : ℕ) → n ≤ d.factor → (phases_of t h n).inner ≡ d.inner + n → (j : ℕ) → j < n
      → finite (raised_of t j) ≡ true
  unfolding phases_of phase_of
  all-finite zero b e j m = absurd (omega arith)
  all-finite (suc n) b e j m =
      let g = phases_of t h n in
      let a =
      advanced (finite (raised_of t n)) (inner_of d g.inner) _ (inside k d l x y taken f n (omega arith))
      (d.inner + n) (phases-inner t h n) (e ∙ plus_one d.inner n) in
      ⊎_elim (λ (w : j ≡ n). subst (λ (i : ℕ). finite (raised_of t i) ≡ true) (sym w) a.0)
      (λ (w : j < n). all-finite n (omega arith) a.1 j w) (eq-or-lt_of_le (below m))
    where
      plus_one : (a b : ℕ) → a + suc b ≡ a + b + 1
      plus_one a b = omega arith

      below : {a b : ℕ} → a < suc b → a ≤ b
      below w = omega arith

  -- What the code asks for: all, or each sample's test.
  pub flags : (all : Bool) → (all ≡ true → (phases_of t h d.factor).inner ≡ d.inner + d.factor) → d.factor ≤ 4
      → (j : ℕ) → j < d.factor
      → which_of (phases_accepted all l.coefficients (pushed l.up d.accepted x) (d.accepted + 1) d.factor) j
      ≡ finite (raised_of t j)
  flags true w few j b = every_one j ∙ sym (all-finite d.factor (omega arith) (w refl) j b)
  flags false w few zero b = refl
  flags false w few (suc zero) b = refl
  flags false w few (suc (suc zero)) b = refl
  flags false w few (suc (suc (suc zero))) b = refl
  flags false w few (suc (suc (suc (suc j)))) b = absurd (omega arith)
