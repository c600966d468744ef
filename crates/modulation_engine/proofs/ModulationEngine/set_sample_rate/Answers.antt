-- `modulation_engine::ModulationEngine::set_sample_rate` meets its contract: its body is the definition, step by step.
-- Assumes nothing.
use Rattle.modulation_engine.proofs.ModulationEngine.set_sample_rate.Goals as goal

pub returns : goal.returns
returns c = rw (c.handed_back.ensures, c.refusal-refusal.ensures, c.sample_rate_ok.ensures)
