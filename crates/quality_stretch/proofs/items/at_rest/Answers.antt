-- `quality_stretch::items::at_rest` meets its contract: each test is the definition's. Assumes nothing.
use Rattle.quality_stretch.proofs.items.at_rest.Goals as goal

pub returns : goal.returns
returns c =
    rw (
      c.both-2.ensures,
      c.is_number.ensures,
      c.both.ensures,
      c.same-2.ensures,
      c.same.ensures,
    )
