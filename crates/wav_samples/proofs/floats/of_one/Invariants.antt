use Prim.Native.Nat.{ℕ, ◌+◌, ◌*◌}
use lib.Ieee.{binary64}
use Rattle.loop_laws.proofs.Writing.{Written}
use Rattle.sample_kind.specs.declared.SampleKind.TheVariants.{Float32}
use Rattle.wav_samples.specs.Samples.{sample_of}
use Rattle.wav_samples.proofs.floats.of_one.Given as goal

abbrev pub invariant-loop-b : goal.invariant-loop-b
invariant-loop-b l =
    Written (λ (j : ℕ). sample_of binary64 Float32 l.part (j * 4 + l.first)) l.initial.out l.out (l.b * 96)
