-- A call, from the contracts of the calls within it: it is refused and everything stays as it was, or it leaves what
-- its phases leave. Assumes nothing.
use Rattle.std.proofs.Common.{◌≡◌, ℕ, zero, suc, ◌+◌, ◌*◌, ◌^◌, ◌≤◌, Bool, true, false, cond, ◌&&◌, T, eqb, List}
use Rattle.std.proofs.Common.{length, sym, refl, ◌∙◌, ⊎_elim, arith, eqb→eq, leb-true}
use denote.Floats.{passes}
use lib.Ieee.{Float, le}
use Rattle.answer.specs.Answers.{zero-f, answer_of}
use Rattle.answer.specs.declared.Answer.{Answer}
use Rattle.ring.specs.Length as ring
use Rattle.filter_settings.specs.Ranges.{taps_ok}
use Rattle.filter_settings.specs.Lengths.{history_length}
use Rattle.kernels.specs.declared.Kernel.{Kernel}
use Rattle.kernels.specs.Kernels.{read_by, own_ok, table_for}
use Rattle.fir_filter.specs.Filters.{pushed, output_of}
use Rattle.oversampled_refusals.specs.Outer.{outer_limit-f}
use Rattle.oversampled_refusals.proofs.Accepted.{Taken, taken}
use Rattle.oversampled_delay.specs.Phases.{Ready, turn_of, high_of, phases_of}
use Rattle.oversampled_delay.specs.Inside.{Tested}
use Rattle.oversampled_delay.specs.Reader.{Lent, lengths_of, settings_ok, lent_ok, outer_of, due_of, from_of}
use Rattle.oversampled_delay.specs.Reader.{state_after, left_by, called, processed_of}
use Rattle.oversampled_delay.specs.declared.OversampledVariableDelay.{OversampledVariableDelay}
use Rattle.oversampled_delay.specs.declared.Processed.{Processed}
use Rattle.oversampled_delay.proofs.Tests.{parted}

abbrev pub made : OversampledVariableDelay → Answer → Processed
made d r = record { state = d; answer = r }

module _ (k : Kernel) (d : OversampledVariableDelay) (l : Lent) (x y : Float) {no : ℕ}
    (due : no ≡ due_of k d (lengths_of l) x y) where
  pub refused-call : (no ≡ 0 → ⊥) → {r : Answer} → r ≡ answer_of no zero-f
      → (made d r ≡ processed_of (called k d l x y))
      × ((l.up ≡ (called k d l x y).up) × ((l.down ≡ (called k d l x y).down) × (l.ring ≡ (called k d l x y).ring)))
  unfolding called
  refused-call some e = rw (e, ← due) (go no some)
    where
      go : (v : ℕ) → (v ≡ 0 → ⊥)
          → (made d (answer_of v zero-f) ≡ processed_of (left_by v k d l x y))
          × ((l.up ≡ (left_by v k d l x y).up)
          × ((l.down ≡ (left_by v k d l x y).down) × (l.ring ≡ (left_by v k d l x y).ring)))
      go zero h = absurd (h refl)
      go (suc v) h = (refl, (refl, (refl, refl)))

  module _ (none : no ≡ 0) where
    nothing : due_of k d (lengths_of l) x y ≡ 0
    nothing = sym due ∙ none

    pub passed : Taken (settings_ok d && own_ok k) (lent_ok k d (lengths_of l)) d.factor (outer_of d) x y
    passed = taken _ _ _ _ _ _ nothing

    -- u is the upsampler's history with the input, h what the phases leave, z the decimating filter's output.
    pub taken-call : {u down ring : List Float} {from z : Float} {inner : ℕ} {r : Answer}
        → u ≡ pushed l.up d.accepted x
        → from ≡ from_of d y
        → let h =
        phases_of (turn_of (read_by k l.table) d l.coefficients u from y) (high_of d.inner l.down l.ring)
        d.factor in
        (inner ≡ h.inner) × ((down ≡ h.down) × (ring ≡ h.ring))
        → z ≡ output_of l.coefficients down (d.factor * (d.accepted + 1)) 1 0 → r ≡ answer_of 0 z
        → (made (state_after d inner y) r ≡ processed_of (called k d l x y))
        × ((u ≡ (called k d l x y).up) × ((down ≡ (called k d l x y).down) × (ring ≡ (called k d l x y).ring)))
    unfolding called
    taken-call e f p g a =
        rw (a, g, p.0, p.1.0, p.1.1, e, f, nothing) (refl, (refl, (refl, refl)))

    -- So no number of the phases is too large.
    pub ready : Ready d
    ready =
        let s = parted (settings_ok d) (own_ok k) passed.owned in
        let t = parted (taps_ok d.taps) (ring.settings_ok (d.factor * d.maximum) d.margin) s.0 in
        let n : ring.need (d.factor * d.maximum) d.margin ≤ 2 ^ 24 = leb-true _ _ t.1 in
        record {
          few = ⊎_elim (λ (e : d.factor ≡ 2). omega arith) (λ (e : d.factor ≡ 4). omega arith) passed.either;
          room = passed.room;
          small = omega arith;
        }

    -- What the call tested, for its phases; from is the delay before the first of them.
    pub tested : {from : Float} → from ≡ from_of d y → Tested d (length l.ring) from y
    tested e =
        let s = parted (settings_ok d) (own_ok k) passed.owned in
        let c = eqb (length l.coefficients) d.taps in
        let up = eqb (length l.up) (history_length d.taps d.factor) in
        let down = eqb (length l.down) d.taps in
        let inner = eqb (length l.ring) (ring.length_for (d.factor * d.maximum) d.margin) in
        let held = (parted (c && (up && down && inner)) (eqb (length l.table) (table_for k)) passed.lasting).0 in
        let long = (parted (up && down) inner (parted c (up && down && inner) held).1).1 in
        let r = from_in (eqb d.accepted 0) in
        record {
          either = passed.either;
          settings = (parted (taps_ok d.taps) (ring.settings_ok (d.factor * d.maximum) d.margin) s.0).1;
          long = eqb→eq _ _ (passes _ long);
          counted = passed.inner;
          from_low = rw e r.0;
          from-high = rw e r.1;
          delay-low = passed.delay-low;
          delay-high = passed.delay-high;
        }
      where
        from_in : (b : Bool)
            → T (le zero-f (cond b y d.previous)) × T (le (cond b y d.previous) outer_limit-f)
        from_in true = (passed.delay-low, passed.delay-high)
        from_in false = (passed.previous-low, passed.previous-high)
