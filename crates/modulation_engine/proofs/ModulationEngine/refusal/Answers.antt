-- `modulation_engine::ModulationEngine::refusal` meets its contract: each branch returns what the definition gives
-- there. Assumes nothing.
use Rattle.modulation_engine.specs.Engine.{verdict}
use Rattle.modulation_engine.proofs.ModulationEngine.refusal.Goals as goal

pub returns-then-valid : goal.returns-then-valid
unfolding verdict
returns-then-valid c =
    rw (
      ← c.sample_rate_ok.ensures,
      ← c.both.ensures,
      c.if-both.true,
      ← c.valid.ensures,
      c.if-valid.true,
    )

pub returns-else-valid : goal.returns-else-valid
unfolding verdict
returns-else-valid c =
    rw (
      ← c.sample_rate_ok.ensures,
      ← c.both.ensures,
      c.if-both.true,
      ← c.valid.ensures,
      c.if-valid.false,
    )

pub returns-else-both : goal.returns-else-both
unfolding verdict
returns-else-both c = rw (← c.sample_rate_ok.ensures, ← c.both.ensures, c.if-both.false)
