-- `modulation_engine::ModulationEngine::new` meets its contract: each branch returns what the definition gives there.
-- Assumes nothing.
use Rattle.modulation_engine.proofs.ModulationEngine.new.Goals as goal

pub returns-then-sample_rate_ok : goal.returns-then-sample_rate_ok
returns-then-sample_rate_ok c =
    rw (
      c.new-flutter.ensures,
      c.new-wow.ensures,
      c.flutter_seed-flutter_seed.ensures,
      ← c.sample_rate_ok.ensures,
      c.if-sample_rate_ok.true,
    )

pub returns-else-sample_rate_ok : goal.returns-else-sample_rate_ok
returns-else-sample_rate_ok c = rw (← c.sample_rate_ok.ensures, c.if-sample_rate_ok.false)
