use Prim.Native.Nat.{◌%◌}
use Rattle.loop_laws.proofs.Writing.{Written}
use Rattle.wav_samples.specs.Frames.{patterns, NoneAbove}
use Rattle.wav_samples.proofs.no_nan.gathered.Given as goal

abbrev pub invariant-loop-k : goal.invariant-loop-k
invariant-loop-k l =
    Written (patterns l.part l.frame l.first) l.initial.kept l.kept l.k
    × NoneAbove (patterns l.part l.frame l.first) l.k (l.all % 0x8000_0000)
