-- `sinc_stretch_f32::items::heard` meets its contract: the one NaN is the NaN. Assumes nothing.
use borrow.Author.Rules.{rules}
use mathlib.Core.Path.{◌∙◌}
use Rattle.sinc_stretch_f32.proofs.items.heard.Goals as goal

pub returns : goal.returns
returns c = c.one_nan_f32.ensures ∙ c.read-y.ensures
