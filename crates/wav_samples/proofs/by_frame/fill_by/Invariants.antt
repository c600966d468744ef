use Prim.Native.Nat.{ℕ, ◌+◌, ◌*◌}
use Rattle.loop_laws.proofs.Writing.{Written}
use Rattle.wav_format.specs.Format.{number}
use Rattle.wav_samples.specs.Frames.{Gives}
use Rattle.wav_samples.proofs.by_frame.fill_by.Given as goal

abbrev pub invariant-loop-k : goal.invariant-loop-k
invariant-loop-k g l =
    (means : ℕ → _) → Gives (goal.F-post g l.value) means
    → Written (λ (j : ℕ). means (number g.row.WIDTH l.part (j * l.frame + l.first))) l.initial.out l.out l.k
