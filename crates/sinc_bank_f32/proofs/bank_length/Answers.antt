-- `sinc_bank_f32::bank_length` meets its contract: it is the length of a set times the number of sets, which is at most
-- 50. Assumes nothing.
use native.Mathlib.Omega.{arith}
use Rattle.bank_choice.specs.Rates.{bank_ok, steps_of}
use Rattle.sinc_bank_f32.specs.Sets.{set_length}
use Rattle.sinc_bank_f32.proofs.SetCount.{few, times}
use Rattle.sinc_bank_f32.proofs.bank_length.Goals as goal

pub overflow_mul-result : goal.overflow_mul-result
overflow_mul-result c = omega (arith, few c.args.max_rate c.steps.result c.steps.ensures)

pub returns : goal.returns
returns c =
    let top = c.args.max_rate in
    times (bank_ok top) c.steps.result (steps_of top) set_length c.steps.ensures
