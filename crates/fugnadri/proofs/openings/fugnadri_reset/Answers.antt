-- `fugnadri::openings::fugnadri_reset` meets its contract: it takes apart what was opened. Assumes nothing.
use Rattle.variable_delay.specs.Opening.{number_of}
use Rattle.answer_parts.specs.States.{count_of}
use Rattle.answer_parts.proofs.LeftByExports.{renewed}
use Rattle.fugnadri.proofs.openings.fugnadri_reset.Goals as goal

pub returns : goal.returns
returns c =
    renewed number_of (count_of _) (c.reset-o.ensures.value, c.reset-o.ensures.ring_after) c.opened_number.ensures
    c.opened_count.ensures
