use Rattle.std.proofs.Common.{◌≡◌}
use Rattle.loop_laws.proofs.Writing.{Written}
use Rattle.lowpass.specs.Design.{raw_of, gain_of}
use Rattle.lowpass.proofs.fill.Given as goal

abbrev pub invariant-loop-k : goal.invariant-loop-k
invariant-loop-k l = record {
  out : Written (raw_of l.taps l.cutoff l.beta) l.initial.out l.out l.k;
  gain : l.gain ≡ gain_of l.taps l.cutoff l.beta l.k;
}
