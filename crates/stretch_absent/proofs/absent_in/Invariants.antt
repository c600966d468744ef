use Rattle.stretch_absent.proofs.Added.{Adding}
use Rattle.stretch_absent.proofs.absent_in.Given as goal

abbrev pub invariant-loop-k : goal.invariant-loop-k
invariant-loop-k l =
    Adding l.len l.before l.delays l.done l.taps l.n l.unwritten l.ahead l.overwritten l.k
