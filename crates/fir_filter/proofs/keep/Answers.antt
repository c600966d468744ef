-- `fir_filter::keep` meets its contract: after k turns the first k coefficients are kept or left out. Assumes nothing.
use Rattle.std.proofs.Common.{◌<◌, length, arith}
use Rattle.std.specs.Float.{nan}
use Rattle.loop_laws.proofs.Mapped.{not_yet, one_more}
use Rattle.fir_filter.specs.Filters.{kept_of}
use Rattle.fir_filter.proofs.keep.Goals as goal

pub loop-c-preserved : goal.loop-c-preserved
loop-c-preserved c =
    let xs = c.args.coefficients.now in
    let k = c.loop-c.c-index in
    let b : k < length xs = omega arith in
    rw (c.kept.ensures, c.loop-c.invariant, not_yet kept_of xs k nan b) (one_more kept_of xs k nan b)
