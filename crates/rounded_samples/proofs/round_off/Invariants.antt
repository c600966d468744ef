use Rattle.loop_laws.proofs.Writing.{Written}
use Rattle.rounded_samples.specs.Rounded.{rounded_at}
use Rattle.rounded_samples.proofs.round_off.Given as goal

abbrev pub invariant-loop-k : goal.invariant-loop-k
invariant-loop-k l = Written (rounded_at l.samples) l.initial.out l.out l.k
