-- `modulation_engine::ModulationEngine::valid` meets its contract: its tests are those of the definition. Assumes
-- nothing.
use Rattle.modulation_engine.specs.Engine.{valid_engine}
use Rattle.modulation_engine.proofs.ModulationEngine.valid.Goals as goal

pub returns : goal.returns
unfolding valid_engine
returns c =
    rw (
      c.both-2.ensures,
      c.both.ensures,
      c.valid-2.ensures,
      c.valid.ensures,
      c.phases_ok.ensures,
    )
