use Rattle.true_sizes.specs.Sizes.{size_in}
use Rattle.true_sizes.proofs.Table.{Left}
use Rattle.true_sizes.proofs.size_in.Given as goal

abbrev pub invariant-loop-k : goal.invariant-loop-k
invariant-loop-k l = Left (size_in l.id) l.opening l.count l.k
