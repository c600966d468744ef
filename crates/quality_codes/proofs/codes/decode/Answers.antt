-- `quality_codes::codes::decode` meets its contract: both qualities are `mode`'s, the rule and the direction those of
-- their numbers. Assumes nothing.
use Rattle.quality_codes.proofs.codes.decode.Goals as goal

pub returns : goal.returns
returns c =
    rw (c.direction.ensures, c.rule.ensures, c.mode-target.ensures, c.mode-current.ensures)
