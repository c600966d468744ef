-- A call of the cascaded reader and the sums beside it, as for the direct reader. Assumes nothing.
use Rattle.std.proofs.Common.{◌≡◌, ℕ, zero, suc, ◌+◌, ◌^◌, ◌<◌, ◌≤◌, T, List, length, sym, refl, ap, ◌∙◌, arith}
use Rattle.std.proofs.Common.{length-set, eqb-true}
use lib.Ieee.{Float, binary64, fits}
use Rattle.absent_taps.specs.declared.Absent.{Absent}
use Rattle.absent_taps.specs.Absent.{none}
use Rattle.told_call.specs.Told.{unless_refused}
use Rattle.kernels.specs.declared.Kernel.{Kernel}
use Rattle.kernels.specs.Kernels.{own_ok, taps_of}
use Rattle.cascaded_delay.specs.Halves.{half_of}
use Rattle.cascaded_delay.specs.Reader.{Lent, lengths_of, ring_ok, due_of, from_of, turn_after, high_before, high_after}
use Rattle.cascaded_delay.specs.Reader.{left_by, called, processed_of}
use Rattle.cascaded_delay.specs.declared.CascadedOversampledVariableDelay4x.{CascadedOversampledVariableDelay4x}
use Rattle.cascaded_delay.specs.declared.Processed.{Processed}
use Rattle.oversampled_delay.proofs.Tests.{parted}
use Rattle.told_oversampled.specs.Cascaded.{up2_of, absent_in, ToldLeft, leaves_told, leaves_twice, told_of}
use Rattle.told_oversampled.specs.Reckoned.{saved_of, reckoned_inside}
use Rattle.told_oversampled.specs.declared.ToldTwice.{ToldTwice}
use Rattle.told_oversampled.proofs.Kernels.{few-taps}
use Rattle.told_oversampled.proofs.CascadedSums.{passed, up2-long, sums, flags}

abbrev pub made : Processed → Absent → ToldTwice
made p s = record { state = p.state; answer = p.answer; absent = s }

abbrev leaves : ToldTwice → List Float → List Float → List Float → List Float → List Float → ToldLeft
leaves t up1 up2 down2 down1 ring =
    leaves_told (leaves_twice t.state t.answer up1 up2 down2 down1 ring) t.absent

module _ (k : Kernel) (d : CascadedOversampledVariableDelay4x) (l : Lent) (x y : Float) {p : Processed}
    {up1 up2 down2 down1 ring : List Float}
    (e : (p ≡ processed_of (called k d l x y))
    × ((up1 ≡ (called k d l x y).up1) × ((up2 ≡ (called k d l x y).up2) × ((down2 ≡ (called k d l x y).down2)
    × ((down1 ≡ (called k d l x y).down1) × (ring ≡ (called k d l x y).ring)))))) where
  -- The reader's own call, and what was counted beside it.
  with-sums : {s : Absent} → s ≡ unless_refused (due_of k d (lengths_of l) x y) (absent_in k d l x y)
      → leaves (made p s) up1 up2 down2 down1 ring ≡ told_of k d l x y
  with-sums f = rw (f, e.0, e.1.0, e.1.1.0, e.1.1.1.0, e.1.1.1.1.0, e.1.1.1.1.1)

  pub refused : p.state.accepted ≡ d.accepted → {s : Absent} → s ≡ none
      → leaves (made p s) up1 up2 down2 down1 ring ≡ told_of k d l x y
  unfolding called
  refused same n = with-sums (n ∙ go (due_of k d (lengths_of l) x y) (rw e.0 at same))
    where
      go : (v : ℕ) → (left_by v k d l x y).state.accepted ≡ d.accepted → none ≡ unless_refused v (absent_in k d l x y)
      go zero w = absurd (omega arith)
      go (suc v) w = refl

  module _ (grew : p.state.accepted ≡ d.accepted → ⊥) where
    nothing-due : due_of k d (lengths_of l) x y ≡ 0
    unfolding called
    nothing-due = go (due_of k d (lengths_of l) x y) (rw e.0 at grew)
      where
        go : (v : ℕ) → ((left_by v k d l x y).state.accepted ≡ d.accepted → ⊥) → v ≡ 0
        go zero w = refl
        go (suc v) w = absurd (w refl)

    -- No number of the sums is too large.
    pub small : (d.accepted < 2 ^ 34) × (d.inner ≤ 2 ^ 36) × (taps_of k ≤ 128)
    small =
        let o = passed k d l x y nothing-due in
        (o.room, omega (arith, o.inner, o.room), few-taps k (parted (ring_ok d) (own_ok k) o.owned).1)

    -- What the call leaves of what the sums are made from.
    left_over : (p.state.inner ≡ (high_after k d l x y).inner)
        × (up2 ≡ up2_of (turn_after k d l x y) 1 (half_of (turn_after k d l x y) 0 (high_before d l)))
    unfolding called half_of
    left_over = rw (e.0, e.1.1.0, nothing-due) (refl, refl)

    pub up2-kept : length up2 ≡ 33
    unfolding half_of
    up2-kept =
        ap length left_over.1 ∙ length-set (up2_of (turn_after k d l x y) 0 (high_before d l)) _ _
        ∙ length-set l.up2 _ _ ∙ up2-long k d l x y nothing-due

    -- The history of the second upsampler is handed back as it was.
    pub counted : T (fits binary64 (from_of d y)) → {before : Float} {us : List Float} {s : Absent}
        → before ≡ saved_of l.up2 d.accepted
        → s ≡ reckoned_inside d p.state.inner k l.halfband up2 before y (length l.ring) → us ≡ up2
        → leaves (made p s) up1 us down2 down1 ring ≡ told_of k d l x y
    counted f {us = us} eb es eu =
        let o = left_over in
        rw eu (with-sums (es ∙ rw (eb, o.1)
        (sums k d l x y nothing-due f _
        (flags k d l x y nothing-due f _ (λ r. sym o.0 ∙ eqb-true p.state.inner (d.inner + 4) r))
        ∙ rw nothing-due)))
