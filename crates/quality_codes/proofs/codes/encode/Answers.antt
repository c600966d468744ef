-- `quality_codes::codes::encode` meets its contract: every number is that of its code. Assumes nothing.
use Rattle.quality_codes.proofs.codes.encode.Goals as goal

pub returns : goal.returns
returns c =
    rw (c.direction_code.ensures, c.rule_code.ensures, c.code-2.ensures, c.code.ensures)
