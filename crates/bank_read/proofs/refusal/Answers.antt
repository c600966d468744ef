-- `bank_read::refusal` meets its contract, test by test. Assumes nothing.
use lib.Ieee.{of_bits}
use Rattle.bank_read.proofs.refusal.Goals as goal

pub returns : goal.returns
unfolding of_bits
returns c =
    rw (
      c.first.ensures,
      c.is_number-t7.ensures,
      c.bank_length.ensures,
      c.both-t1.ensures,
      c.position_ok.ensures,
      c.within.ensures,
    )
