-- `modulation_sample::stepped` meets its contract: its body is the definition, step by step. Assumes nothing.
use Rattle.modulation_sample.proofs.stepped.Goals as goal

pub returns : goal.returns
returns c =
    rw (
      c.advance_phase-2.ensures,
      c.advance_phase.ensures,
      c.multiplier-2.ensures,
      c.multiplier.ensures,
    )
