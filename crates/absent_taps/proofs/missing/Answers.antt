-- `absent_taps::missing` meets its contract: the three numbers computed at once are those counted tap by tap. Assumes
-- nothing.
use mathlib.Core.Path.{◌∙◌}
use mir.Syntax.{w64}
use mir.ValLaws.{to_z-of_z}
use Rattle.absent_taps.proofs.AtOnce.{missing-is}
use Rattle.absent_taps.proofs.missing.Goals as goal

pub returns : goal.returns
returns c =
    missing-is _ _ _ _ c.first-at.result
    (c.first-at.ensures
    ∙ rw (
      to_z-of_z w64 c.floor.result (record { sfits = c.floor.type_inv }),
      c.floor.ensures,
      c.less.ensures,
    ))
    c.less-oldest.ensures c.below-unwritten.ensures c.below-gone.ensures c.below-written.ensures c.less-2.ensures
    c.less-3.ensures
