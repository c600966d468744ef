use Rattle.square_root.proofs.Restoring.{Down}
use Rattle.square_root.proofs.root_digits.Given as goal

abbrev pub invariant-loop : goal.invariant-loop
invariant-loop l = Down l.z l.s l.r l.y l.counter
