-- `quality_stretch::items::single` meets its contract: it is the reader's call, taken apart. Assumes nothing.
use mathlib.Core.Path.{refl}
use Rattle.quality_stretch.specs.Reader.{call_of}
use Rattle.quality_stretch.proofs.items.single.Goals as goal

pub returns : goal.returns
unfolding call_of
returns c =
    let p = c.process_sample_rate_aware-p.ensures in
    rw (c.value.ensures, c.number.ensures, p.ring_after, p.value)
    record { state_value = refl; number_value = refl; sample_value = refl; ring_after = refl }
