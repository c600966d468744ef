use Rattle.std.proofs.Common.{ℕ, List, get_or}
use Rattle.std.specs.Prelude.{Float}
use Rattle.std.specs.Float.{nan}
use Rattle.rounding.specs.Operations.{narrowed}
use Rattle.loop_laws.proofs.Writing.{Written}
use Rattle.windowed_sinc_f32.proofs.narrow_row.Given as goal

abbrev pub rounded : List Float → ℕ → Float
rounded from k = narrowed (get_or from k nan)

abbrev pub invariant-loop-k : goal.invariant-loop-k
invariant-loop-k l = Written (rounded l.from) l.initial.row l.row l.k
