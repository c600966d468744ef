-- `modulation_engine::ModulationEngine::reset` meets its contract: it is the definition, by `both-renewed`.
-- Assumes nothing.
use Rattle.smooth_random.specs.Drift as drift
use Rattle.oscillator_ranges.specs.Constants as numbers
use Rattle.modulation_engine.proofs.Renewing.{both-renewed}
use Rattle.modulation_engine.proofs.ModulationEngine.reset.Goals as goal

pub returns : goal.returns
returns c =
    let e = c.args.self in
    rw (c.handed_back.ensures, c.reset-flutter.ensures, c.reset-wow.ensures, c.refusal-refusal.ensures)
    (both-renewed e (λ w f. record {
      sample_rate = e.sample_rate;
      wow_phase = numbers.zero;
      flutter_phase = numbers.zero;
      wow_drift = w;
      flutter_drift = f;
    }) (drift.reset_of e.wow_drift) (drift.reset_of e.flutter_drift))
