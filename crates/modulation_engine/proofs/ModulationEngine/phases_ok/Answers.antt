-- `modulation_engine::ModulationEngine::phases_ok` meets its contract: its tests are those of the definition. Assumes
-- nothing.
use Rattle.modulation_engine.specs.Engine.{phases_ok}
use Rattle.modulation_engine.proofs.ModulationEngine.phases_ok.Goals as goal

pub returns : goal.returns
unfolding phases_ok
returns c = rw (c.both.ensures, c.cycle_ok-2.ensures, c.cycle_ok.ensures)
