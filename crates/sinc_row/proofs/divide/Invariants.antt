use Rattle.std.proofs.Common.{◌≡◌}
use Rattle.std.specs.Prelude.{Float}
use Rattle.std.specs.Float.{binary64}
use Rattle.std.specs.Float.Ieee.{div}
use Rattle.loop_laws.proofs.Mapped.{halfway}
use Rattle.sinc_row.proofs.divide.Given as goal

abbrev pub invariant-loop-x : goal.invariant-loop-x
invariant-loop-x l = l.row ≡ halfway (λ (x : Float). div binary64 x l.gain) l.initial.row l.x-index
