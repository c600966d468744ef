use Rattle.fade_absent.proofs.Added.{Adding}
use Rattle.fade_absent.proofs.absent_in.Given as goal

abbrev pub invariant-loop-k : goal.invariant-loop-k
invariant-loop-k l =
    Adding l.len l.before l.initial.running l.choice l.quality l.delays l.done l.n l.running l.unwritten l.ahead
    l.overwritten l.k
