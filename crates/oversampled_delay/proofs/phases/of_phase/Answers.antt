-- `oversampled_delay::phases::of_phase` meets its contract, by its four cases. Assumes nothing.
use Rattle.std.proofs.Common.{arith, ne_eqb}
use Rattle.oversampled_delay.proofs.phases.of_phase.Goals as goal

pub returns-in_default : goal.returns-in_default
returns-in_default c =
    let k = c.args.k in
    rw (ne_eqb k 0 (λ e. omega arith), ne_eqb k 1 (λ e. omega arith), ne_eqb k 2 (λ e. omega arith))
