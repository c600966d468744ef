-- Both paths of a reading that is not refused, with every tap held and with some absent, give the definition's value.
-- The names are those of the code: r from `phase_at`, b its blend narrowed, z from `first_tap`, s from `run_start`.
-- Assumes nothing.
use mathlib.Core.Path.{◌≡◌, ◌∙◌, ap}
use mathlib.Core.Bool.{true}
use mathlib.Core.List.{List}
use Prim.Native.Nat.{ℕ, ◌+◌, ◌%◌}
use lib.IntN.{ℤ, pos, ◌+ℤ◌}
use lib.ListN.{length, get_or}
use lib.Ieee.{Float, nan}
use Rattle.answer.specs.Answers.{zero-f}
use Rattle.rounding.specs.Operations.{narrowed}
use Rattle.loop_laws.specs.Loops.{fold}
use Rattle.loop_laws.proofs.Folds.{same}
use Rattle.ring.specs.Taps.{tap_of}
use Rattle.ring.specs.Quick.{start_of}
use Rattle.ring.specs.declared.Start.{Start}
use Rattle.ring.proofs.HeldRuns as run
use Rattle.sinc_phases.specs.declared.Phase.{Phase}
use Rattle.sinc_phases.specs.Phases.{blend_of, phase_at, first_tap}
use Rattle.sinc_read.proofs.AcceptedReading.{Readable}
use Rattle.sinc_read.proofs.BothWays.{phase-is, blend_is}
use Rattle.sinc_read_f32.specs.Sums.{tap_turn}
use Rattle.sinc_read_f32.specs.Reading.{sinc_f32_at}

module _ {taps phases len : ℕ} {p : Float} (ok : Readable taps phases len p) (table xs : List Float) (count : ℕ)
    {r : Phase} {b : Float} {z : ℤ} {v : Float} (phase : r ≡ phase_at p phases) (blend : b ≡ narrowed r.blend)
    (first : z ≡ first_tap p taps) where
  pub scattered : v ≡ fold (tap_turn (λ (k : ℕ). tap_of xs count (z +ℤ pos k)) table b taps r.phase) zero-f taps
      → v ≡ sinc_f32_at table taps phases xs count p
  unfolding sinc_f32_at
  scattered e =
      let c : b ≡ narrowed (blend_of p phases) = blend ∙ ap narrowed (blend_is ok phase) in
      e ∙ rw (phase-is ok phase, c, first)

  pub held : (s : Start) → s ≡ start_of (length xs) count z taps → s.held ≡ true
      → v ≡ fold (tap_turn (λ (k : ℕ). get_or xs ((s.place + k) % length xs) nan) table b taps r.phase) zero-f taps
      → v ≡ sinc_f32_at table taps phases xs count p
  held s start all e = scattered (e ∙ same _ _ zero-f taps (λ k l v. rw (run.each xs count taps z s start all k l)))
