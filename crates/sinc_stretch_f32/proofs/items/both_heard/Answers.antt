-- `sinc_stretch_f32::items::both_heard` meets its contract: the one NaN is the NaN. Assumes nothing.
use borrow.Author.Rules.{rules}
use mathlib.Core.Path.{◌∙◌}
use Rattle.sinc_stretch_f32.proofs.items.both_heard.Goals as goal

pub returns : goal.returns
returns c =
    record {
      a_value = c.one_nan_f32-a.ensures ∙ c.read_neighbours-r.ensures.a_value;
      b_value =
          c.one_nan_f32-b.ensures ∙ c.read_neighbours-r.ensures.b_value;
    }
