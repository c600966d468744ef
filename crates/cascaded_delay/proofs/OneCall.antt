-- A call, from the contracts of the calls within it: it is refused and everything stays as it was, or it leaves what
-- its two halves leave. Assumes nothing.
use mathlib.Core.Path.{◌≡◌, refl, sym, ◌∙◌}
use mathlib.Core.Bool.{◌&&◌}
use mathlib.Core.List.{List}
use Prim.Native.Nat.{ℕ, zero, suc, ◌+◌, ◌*◌, ◌^◌, ◌≤◌}
use native.Mathlib.Omega.{arith}
use borrow.Author.Tests.{leb-true}
use lib.Ieee.{Float}
use Rattle.answer.specs.Answers.{zero-f, answer_of}
use Rattle.answer.specs.declared.Answer.{Answer}
use Rattle.ring.specs.Length.{need}
use Rattle.kernels.specs.declared.Kernel.{Kernel}
use Rattle.kernels.specs.Kernels.{read_by, own_ok}
use Rattle.fir_filter.specs.Filters.{pushed, output_of}
use Rattle.oversampled_refusals.proofs.Accepted.{Taken, taken}
use Rattle.oversampled_delay.proofs.Tests.{parted}
use Rattle.cascaded_delay.specs.Halves.{Ready, turn_of, both_of}
use Rattle.cascaded_delay.specs.Reader.{Lent, lengths_of, ring_ok, lent_ok, outer_of, due_of, from_of, high_before}
use Rattle.cascaded_delay.specs.Reader.{state_after, left_by, called, processed_of}
use Rattle.cascaded_delay.specs.declared.CascadedOversampledVariableDelay4x.{CascadedOversampledVariableDelay4x}
use Rattle.cascaded_delay.specs.declared.Processed.{Processed}
use Rattle.cascaded_delay.proofs.Steps.{Leaves}

abbrev pub made : CascadedOversampledVariableDelay4x → Answer → Processed
made d r = record { state = d; answer = r }

module _ (k : Kernel) (d : CascadedOversampledVariableDelay4x) (l : Lent) (x y : Float) {no : ℕ}
    (due : no ≡ due_of k d (lengths_of l) x y) where
  pub refused-call : (no ≡ 0 → ⊥) → {r : Answer} → r ≡ answer_of no zero-f
      → (made d r ≡ processed_of (called k d l x y))
      × ((l.up1 ≡ (called k d l x y).up1)
      × ((l.up2 ≡ (called k d l x y).up2)
      × ((l.down2 ≡ (called k d l x y).down2)
      × ((l.down1 ≡ (called k d l x y).down1) × (l.ring ≡ (called k d l x y).ring)))))
  unfolding called
  refused-call some e = rw (e, ← due) (go no some)
    where
      go : (v : ℕ) → (v ≡ 0 → ⊥)
          → (made d (answer_of v zero-f) ≡ processed_of (left_by v k d l x y))
          × ((l.up1 ≡ (left_by v k d l x y).up1)
          × ((l.up2 ≡ (left_by v k d l x y).up2)
          × ((l.down2 ≡ (left_by v k d l x y).down2)
          × ((l.down1 ≡ (left_by v k d l x y).down1) × (l.ring ≡ (left_by v k d l x y).ring)))))
      go zero h = absurd (h refl)
      go (suc v) h = (refl, (refl, (refl, (refl, (refl, refl)))))

  module _ (none : no ≡ 0) where
    nothing : due_of k d (lengths_of l) x y ≡ 0
    nothing = sym due ∙ none

    pub passed : Taken (ring_ok d && own_ok k) (lent_ok k d (lengths_of l)) 4 (outer_of d) x y
    passed = taken _ _ _ _ _ _ nothing

    -- So no number of the halves is too large.
    pub ready : Ready d
    ready =
        let s = parted (ring_ok d) (own_ok k) passed.owned in
        let n : need (4 * d.maximum) d.margin ≤ 2 ^ 24 = leb-true _ _ s.0 in
        record { room = passed.room; small = omega arith }

    -- u is the first upsampler's history with the input, z the last filter's output.
    pub taken-call : (u up2 down2 down1 ring : List Float) (from : Float) (inner : ℕ) {z : Float} {r : Answer}
        → u ≡ pushed l.up1 d.accepted x → from ≡ from_of d y
        → Leaves (both_of (turn_of (read_by k l.table) d l.halfband u from y) (high_before d l)) inner up2 down2 down1
        ring
        → z ≡ output_of l.last down1 (2 * (d.accepted + 1)) 1 0 → r ≡ answer_of 0 z
        → (made (state_after d inner y) r ≡ processed_of (called k d l x y))
        × ((u ≡ (called k d l x y).up1)
        × ((up2 ≡ (called k d l x y).up2)
        × ((down2 ≡ (called k d l x y).down2)
        × ((down1 ≡ (called k d l x y).down1) × (ring ≡ (called k d l x y).ring)))))
    unfolding called
    taken-call u up2 down2 down1 ring from inner eu ef p ez er =
        rw (er, ez, p.0, p.1.0, p.1.1.0, p.1.1.1.0, p.1.1.1.1, eu, ef, nothing)
        (refl, (refl, (refl, (refl, (refl, refl)))))
