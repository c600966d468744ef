-- `fir_filter::sums::quotient` meets its contract, factor by factor. Assumes nothing.
use mathlib.Core.Path.{sym}
use native.Mathlib.Nat.{div-one}
use Rattle.fir_filter.proofs.sums.quotient.Goals as goal

pub returns-then-factor-eq1 : goal.returns-then-factor-eq1
returns-then-factor-eq1 c = rw c.if-factor-eq1.true (sym (div-one c.args.x))

pub returns-then-factor-eq2 : goal.returns-then-factor-eq2
returns-then-factor-eq2 c = rw c.if-factor-eq2.true

pub returns-then-factor-eq4 : goal.returns-then-factor-eq4
returns-then-factor-eq4 c = rw c.if-factor-eq4.true
