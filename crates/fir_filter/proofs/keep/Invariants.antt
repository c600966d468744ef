use Rattle.std.proofs.Common.{◌≡◌}
use Rattle.loop_laws.proofs.Mapped.{halfway}
use Rattle.fir_filter.specs.Filters.{kept_of}
use Rattle.fir_filter.proofs.keep.Given as goal

abbrev pub invariant-loop-c : goal.invariant-loop-c
invariant-loop-c l = l.coefficients ≡ halfway kept_of l.initial.coefficients l.c-index
