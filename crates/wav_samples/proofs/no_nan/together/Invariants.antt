use Prim.Native.Nat.{◌%◌}
use Rattle.wav_samples.specs.Frames.{patterns, NoneAbove}
use Rattle.wav_samples.proofs.no_nan.together.Given as goal

abbrev pub invariant-loop-k : goal.invariant-loop-k
invariant-loop-k l = NoneAbove (patterns l.part l.frame l.first) l.k (l.all % 0x8000_0000)
