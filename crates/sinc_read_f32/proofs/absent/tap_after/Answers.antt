-- `sinc_read_f32::absent::tap_after` meets its contract: the sum of the first tap and a small number is the machine's.
-- Assumes nothing.
use mathlib.Core.Path.{◌∙◌, ap}
use native.Mathlib.Omega.{arith}
use Rattle.integer_part.proofs.SumsInRange.{plus-fits, plus-is}
use Rattle.ring.specs.Taps.{tap_of}
use Rattle.sinc_read_f32.proofs.absent.tap_after.Goals as goal

pub returns : goal.returns
returns c =
    c.tap_f32.ensures
    ∙ ap (tap_of c.args.source.now c.args.count) (plus-is c.ranges.first c.args.k (omega arith))

pub overflow_add-first : goal.overflow_add-first
overflow_add-first c = plus-fits c.ranges.first c.args.k (omega arith)
