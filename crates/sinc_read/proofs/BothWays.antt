-- Both ways of a reading that is not refused, with every tap held and with taps one by one, give the definition's
-- value, at what the code holds: r from `phase_at`, z from `first_tap`, s from `run_start`. Assumes nothing.
use mathlib.Core.Path.{◌≡◌, ◌∙◌, ap}
use mathlib.Core.Bool.{true, ◌&&◌, cond}
use mathlib.Core.List.{List}
use Prim.Native.Nat.{ℕ, ◌+◌, ◌-◌, ◌*◌, ◌/◌, ◌%◌, ◌^◌, ◌<◌, ◌≤◌}
use native.Mathlib.Omega.{arith}
use denote.Floats.{passes}
use lib.Dec.{lit<}
use lib.IntN.{ℤ, pos, ◌+ℤ◌}
use lib.ListN.{length, get_or}
use lib.Signed.{mag}
use lib.Ieee.{Float, nan}
use lib.Ieee.Bits.{is_true}
use lib.Ieee.Fits.{and_l, and_r}
use Rattle.answer.specs.Answers.{zero-f}
use Rattle.integer_part.specs.Parts.{floor_of}
use Rattle.integer_part.proofs.Floors.{floor-mag}
use Rattle.integer_part.proofs.SumsInRange.{minus-mag}
use Rattle.loop_laws.specs.Loops.{fold}
use Rattle.loop_laws.proofs.Folds.{same}
use Rattle.ring.specs.Taps.{tap_of}
use Rattle.ring.specs.Places.{position_ok}
use Rattle.ring.specs.Quick.{start_of}
use Rattle.ring.specs.declared.Start.{Start}
use Rattle.ring.proofs.Positions.{position-at-most}
use Rattle.ring.proofs.HeldRuns as run
use Rattle.sinc_settings.specs.Ranges.{taps_ok, phases_ok}
use Rattle.sinc_settings.proofs.SettingsInRange.{Counts, counts}
use Rattle.sinc_phases.specs.declared.Phase.{Phase}
use Rattle.sinc_phases.specs.Phases.{phase_of, blend_of, phase_at, first_tap}
use Rattle.sinc_read.specs.Sums.{tap_turn}
use Rattle.sinc_read.specs.Reading.{sinc_at}
use Rattle.sinc_read.proofs.AcceptedReading.{Readable}
use Rattle.sinc_phases.proofs.RowsInTable.{next-phase, two-rows}

module _ {taps phases len : ℕ} {p : Float} (ok : Readable taps phases len p) where
  counted : Counts taps phases
  counted = counts taps phases ok.counted

  taps-fine : taps_ok taps ≡ true
  taps-fine =
      is_true (taps_ok taps)
      (and_l (taps_ok taps) (phases_ok phases) (passes (taps_ok taps && phases_ok phases) ok.counted))

  phases-fine : phases_ok phases ≡ true
  phases-fine =
      is_true (phases_ok phases)
      (and_r (taps_ok taps) (phases_ok phases) (passes (taps_ok taps && phases_ok phases) ok.counted))

  pub phase-is : {r : Phase} → r ≡ phase_at p phases → r.phase ≡ phase_of p phases
  phase-is e = ap (λ (r : Phase). r.phase) e ∙ rw (phases-fine, ok.here)

  pub blend_is : {r : Phase} → r ≡ phase_at p phases → r.blend ≡ blend_of p phases
  blend_is e = ap (λ (r : Phase). r.blend) e ∙ rw (phases-fine, ok.here)

  pub first-is : {z : ℤ} → z ≡ cond (taps_ok taps && position_ok p) (first_tap p taps) (pos 0) → z ≡ first_tap p taps
  first-is e = e ∙ rw (taps-fine, ok.here)

  pub rows_fit : {r : Phase} → r ≡ phase_at p phases → r.phase * taps + taps + taps ≤ len
  rows_fit e =
      rw (phase-is e, ok.long) (two-rows (phase_of p phases) taps phases (next-phase p phases counted.least-phases))

  pub few : taps ≤ 128
  few = counted.most-taps

  pub some : 0 < taps
  some = omega (arith, counted.least-taps)

  pub first-near : mag (first_tap p taps) ≤ 2 ^ 37
  first-near =
      omega (
        arith,
        minus-mag (floor_of p) (taps / 2 - 1),
        floor-mag (2 ^ 36) p (lit< tt) (position-at-most p ok.here),
        few,
      )

  module _ (table xs : List Float) (count : ℕ) {r : Phase} {z : ℤ} {v : Float} (phase : r ≡ phase_at p phases)
      (first : z ≡ first_tap p taps) where
    pub one_by_one : v
        ≡ fold (tap_turn (λ (k : ℕ). tap_of xs count (z +ℤ pos k)) table r.blend taps r.phase) zero-f taps
        → v ≡ sinc_at table taps phases xs count p
    unfolding sinc_at
    one_by_one e = e ∙ rw (phase-is phase, blend_is phase, first)

    pub held : (s : Start) → s ≡ start_of (length xs) count z taps → s.held ≡ true
        → v ≡ fold
        (tap_turn (λ (k : ℕ). get_or xs ((s.place + k) % length xs) nan) table r.blend taps r.phase) zero-f taps
        → v ≡ sinc_at table taps phases xs count p
    held s start all e = one_by_one (e ∙ same _ _ zero-f taps (λ k l v. rw (run.each xs count taps z s start all k l)))
