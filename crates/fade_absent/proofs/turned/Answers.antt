-- `fade_absent::turned` meets its contract: it counts what the turn of its step reads. Assumes nothing.
use Rattle.std.proofs.Common.{◌∙◌}
use Rattle.fade_absent.proofs.turned.Goals as goal

pub returns : goal.returns
returns c =
    record {
      fade_value = rw c.step-t.ensures;
      absent_value =
          c.of_turn-absent.ensures ∙ rw (c.step-t.ensures, c.nearest_u64_to_f64.ensures);
    }
