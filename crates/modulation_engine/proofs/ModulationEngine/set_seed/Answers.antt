-- `modulation_engine::ModulationEngine::set_seed` meets its contract: it is the definition, by `both-renewed`.
-- Assumes nothing.
use Rattle.smooth_random.specs.Drift as drift
use Rattle.xorshift.specs.Seeds.{flutter_seed_of}
use Rattle.modulation_engine.proofs.Renewing.{both-renewed}
use Rattle.modulation_engine.proofs.ModulationEngine.set_seed.Goals as goal

pub returns : goal.returns
returns c =
    let a = c.args in
    let e = a.self in
    rw (
      c.handed_back.ensures,
      c.set_seed-flutter.ensures,
      c.flutter_seed.ensures,
      c.set_seed-wow.ensures,
      c.refusal-refusal.ensures,
    )
    (both-renewed e (λ w f. record {
      sample_rate = e.sample_rate;
      wow_phase = e.wow_phase;
      flutter_phase = e.flutter_phase;
      wow_drift = w;
      flutter_drift = f;
    }) (drift.set_seed_of e.wow_drift a.seed) (drift.set_seed_of e.flutter_drift (flutter_seed_of a.seed)))
