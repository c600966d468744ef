use mathlib.Core.Path.{◌≡◌}
use Prim.Native.Nat.{◌≤◌}
use Rattle.wav_samples.specs.Frames.{patterns, NoneAbove}
use Rattle.wav_samples.proofs.no_nan.nans.Given as goal

abbrev pub invariant-loop-k : goal.invariant-loop-k
invariant-loop-k l =
    (l.found ≤ l.k) × (l.found ≡ 0 → NoneAbove (patterns l.part l.frame l.first) l.k 0x7f80_0000)
