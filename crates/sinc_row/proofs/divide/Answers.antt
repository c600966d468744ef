-- `sinc_row::divide` meets its contract: after k turns the first k elements are divided. Assumes nothing.
use Rattle.std.proofs.Common.{◌<◌, length, arith}
use Rattle.std.specs.Prelude.{Float}
use Rattle.std.specs.Float.{nan, binary64}
use Rattle.std.specs.Float.Ieee.{div}
use Rattle.loop_laws.proofs.Mapped.{not_yet, one_more}
use Rattle.sinc_row.proofs.divide.Goals as goal

pub loop-x-preserved : goal.loop-x-preserved
loop-x-preserved c =
    let xs = c.args.row.now in
    let k = c.loop-x.x-index in
    let by = λ (x : Float). div binary64 x c.args.gain in
    let b : k < length xs = omega arith in
    rw (c.quotient.ensures, c.loop-x.invariant, not_yet by xs k nan b) (one_more by xs k nan b)
