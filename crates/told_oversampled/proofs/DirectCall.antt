-- A call of the direct reader and the sums beside it: whether it was accepted shows in the accepted number, and then
-- the sums are those of its phases. Assumes nothing.
use Rattle.std.proofs.Common.{◌≡◌, ℕ, zero, suc, ◌+◌, ◌^◌, ◌≤◌, Bool, true, ◌&&◌, T, List, length, sym, refl, ap, ◌∙◌}
use Rattle.std.proofs.Common.{⊎_elim, mul-le-mul_right, arith}
use lib.Ieee.{Float, binary64, fits}
use Rattle.absent_taps.specs.declared.Absent.{Absent}
use Rattle.absent_taps.specs.Absent.{none}
use Rattle.told_call.specs.Told.{unless_refused}
use Rattle.high_delay.specs.Between.{high_delay}
use Rattle.kernels.specs.declared.Kernel.{Kernel}
use Rattle.kernels.specs.Kernels.{own_ok, taps_of}
use Rattle.fir_filter.specs.Filters.{pushed}
use Rattle.oversampled_refusals.proofs.Accepted.{Taken, taken}
use Rattle.oversampled_delay.specs.Reader.{Lent, lengths_of, settings_ok, lent_ok, outer_of, due_of, from_of, left_by}
use Rattle.oversampled_delay.specs.Reader.{called}
use Rattle.oversampled_delay.specs.Reader.{high_after, processed_of}
use Rattle.oversampled_delay.specs.declared.OversampledVariableDelay.{OversampledVariableDelay}
use Rattle.oversampled_delay.specs.declared.Processed.{Processed}
use Rattle.oversampled_delay.proofs.Tests.{parted}
use Rattle.told_oversampled.specs.Direct.{ToldLeft, leaves_told, leaves_once, absent_in, told_of}
use Rattle.told_oversampled.specs.Reckoned.{which_of, reckoned, phases_accepted}
use Rattle.told_oversampled.specs.declared.readings.Accepted.{Accepted}
use Rattle.told_oversampled.specs.declared.readings.Sums.{Sums}
use Rattle.told_oversampled.specs.declared.Told.{Told}
use Rattle.told_oversampled.proofs.Kernels.{few-taps}
use Rattle.told_oversampled.proofs.DirectSums.{sums, flags}

abbrev pub made : Processed → Absent → Told
made p s = record { state = p.state; answer = p.answer; absent = s }

abbrev leaves : Told → List Float → List Float → List Float → ToldLeft
leaves t up down ring = leaves_told (leaves_once t.state t.answer up down ring) t.absent

module _ (k : Kernel) (d : OversampledVariableDelay) (l : Lent) (x y : Float) {p : Processed}
    {up down ring : List Float}
    (e : (p ≡ processed_of (called k d l x y))
    × ((up ≡ (called k d l x y).up) × ((down ≡ (called k d l x y).down) × (ring ≡ (called k d l x y).ring)))) where
  -- The reader's own call, and what was counted beside it.
  pub with-sums : {s : Absent} → s ≡ unless_refused (due_of k d (lengths_of l) x y) (absent_in k d l x y)
      → leaves (made p s) up down ring ≡ told_of k d l x y
  with-sums f = rw (f, e.0, e.1.0, e.1.1.0, e.1.1.1)

  pub refused : p.state.accepted ≡ d.accepted → {s : Absent} → s ≡ none
      → leaves (made p s) up down ring ≡ told_of k d l x y
  unfolding called
  refused same n = with-sums (n ∙ go (due_of k d (lengths_of l) x y) (rw e.0 at same))
    where
      go : (v : ℕ) → (left_by v k d l x y).state.accepted ≡ d.accepted → none ≡ unless_refused v (absent_in k d l x y)
      go zero w = absurd (omega arith)
      go (suc v) w = refl

  module _ (grew : p.state.accepted ≡ d.accepted → ⊥) where
    pub nothing-due : due_of k d (lengths_of l) x y ≡ 0
    unfolding called
    nothing-due = go (due_of k d (lengths_of l) x y) (rw e.0 at grew)
      where
        go : (v : ℕ) → ((left_by v k d l x y).state.accepted ≡ d.accepted → ⊥) → v ≡ 0
        go zero w = refl
        go (suc v) w = absurd (w refl)

    pub passed : Taken (settings_ok d && own_ok k) (lent_ok k d (lengths_of l)) d.factor (outer_of d) x y
    passed = taken _ _ _ _ _ _ nothing-due

    -- No number of the sums is too large.
    pub small : (d.factor ≤ 4) × (d.inner ≤ 2 ^ 36) × (taps_of k ≤ 128)
    small =
        let few : d.factor ≤ 4 =
        ⊎_elim (λ (e : d.factor ≡ 2). omega arith) (λ (e : d.factor ≡ 4). omega arith) passed.either in (
          few,
          omega (arith, mul-le-mul_right d.accepted few, passed.inner, passed.room),
          few-taps k (parted (settings_ok d) (own_ok k) passed.owned).1,
        )

    -- What the call leaves of what the sums are made from.
    pub left_over : (p.state.accepted ≡ d.accepted + 1) × (p.state.inner ≡ (high_after k d l x y).inner)
        × (up ≡ pushed l.up d.accepted x)
    unfolding called
    left_over = rw (e.0, e.1.0, nothing-due) (refl, refl, refl)

    pub counted : T (fits binary64 (from_of d y)) → {all : Bool} {a : Accepted} {from : Float} {n : ℕ} {s : Absent}
        → (all ≡ true → p.state.inner ≡ d.inner + d.factor)
        → a ≡ phases_accepted all l.coefficients up p.state.accepted d.factor → from ≡ from_of d y
        → n ≡ taps_of k
        → s ≡ (reckoned (which_of a) (λ (j : ℕ). high_delay from y (j + 1) d.factor) (length l.ring) n d.inner
        d.factor).absent
        → leaves (made p s) up down ring ≡ told_of k d l x y
    counted f {all} w ea ef en es =
        let o = left_over in
        let e =
        sums k d l x y nothing-due f _ (flags k d l x y nothing-due f all (λ r. sym o.1 ∙ w r) small.0) (taps_of k)
        d.factor (omega arith) in
        with-sums (es ∙ rw (ea, ef, en, o.0, o.2) (ap (λ (s : Sums). s.absent) e ∙ rw nothing-due))
