-- `told_oversampled::cascaded::absent_inside` meets its contract: the sums are made from which samples were accepted.
-- Assumes nothing.
use Rattle.std.proofs.Common.{sym, ap, ◌∙◌}
use lib.Ieee.{binary64, fits}
use Rattle.told_oversampled.proofs.cascaded.absent_inside.Goals as goal

pub returns : goal.returns
returns c =
    record {
      value = c.summed.ensures ∙ rw (
        c.quarters_accepted-accepted.ensures.value,
        c.start-from.ensures.value,
        c.taps.ensures,
      );
      delay_value = ap (fits binary64) (sym c.start-from.ensures.value) ∙
          c.start-from.ensures.result_value;
      up2_unchanged = c.quarters_accepted-accepted.ensures.up2_unchanged;
    }
