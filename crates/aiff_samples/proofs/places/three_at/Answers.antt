-- `aiff_samples::places::three_at` meets its contract: byte by byte, the last one first. Assumes nothing.
use mathlib.Core.Path.{sym, ap, ◌∙◌}
use Rattle.high_first.specs.High.{big_value}
use Rattle.aiff_samples.proofs.Bytes.{three-bytes}
use Rattle.aiff_samples.proofs.places.three_at.Goals as goal

pub returns : goal.returns
returns c =
    let s = c.args in
    c.of_three.ensures.value ∙ ap big_value (sym (three-bytes s.part.now s.at c.requires))
