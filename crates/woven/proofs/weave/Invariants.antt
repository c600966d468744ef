use Rattle.loop_laws.proofs.Writing.{Written}
use Rattle.woven.specs.Woven.{woven_at}
use Rattle.woven.proofs.weave.Given as goal

abbrev pub invariant-loop-k : goal.invariant-loop-k
invariant-loop-k l = Written (woven_at l.one l.two) l.initial.out l.out l.k
