-- N1, N3. The engine learns from its generators' answers whether their states are in range, and so tests each range
-- once. What it finds is the refusal of its definition. Assumes nothing.
use mathlib.Core.Path.{◌≡◌}
use mathlib.Core.Bool.{Bool, true, false, ◌&&◌, cond}
use denote.Floats.{passes}
use lib.Dec.{eqb}
use lib.Ieee.Fits.{and_i, and_l, and_r}
use Rattle.smooth_random.specs.Ranges.{within}
use Rattle.oscillator_ranges.specs.Constants.{zero}
use Rattle.oscillator_ranges.specs.Ranges.{fastest, sample_rate_ok}
use Rattle.modulation_params.specs.Settings.{params_ok}
use Rattle.modulation_engine.specs.Engine.{phases_ok, valid_engine, verdict}
use Rattle.modulation.specs.Step.{wow_pace, flutter_pace, wow_drift, flutter_drift}
use Rattle.modulation_engine.specs.declared.ModulationEngine.{ModulationEngine}
use Rattle.modulation_params.specs.declared.ModulationParams.{ModulationParams}
use Rattle.modulation.proofs.SettingsInRange.{held}
use Rattle.modulation.proofs.PacesInRange.{wow-paces, flutter-paces, refuses-a-state-alone}

module _ (e : ModulationEngine) (p : ModulationParams)
    (settings : (sample_rate_ok e.sample_rate && params_ok p) ≡ true) where
  pub ready : (phases_ok e && (eqb (wow_drift e p).refusal 0 && eqb (flutter_drift e p).refusal 0)) ≡ valid_engine e
  unfolding valid_engine
  ready =
      let both = passes _ settings in
      let rate = and_l (sample_rate_ok e.sample_rate) (params_ok p) both in
      let h = held p (and_r (sample_rate_ok e.sample_rate) (params_ok p) both) in
      rw (
        refuses-a-state-alone e.wow_drift (wow_pace p) e.sample_rate
            (and_i (within zero fastest (wow_pace p)) (sample_rate_ok e.sample_rate) (wow-paces p h) rate),
        refuses-a-state-alone e.flutter_drift (flutter_pace p) e.sample_rate
            (and_i (within zero fastest (flutter_pace p)) (sample_rate_ok e.sample_rate) (flutter-paces p h) rate),
      )

  pub found : (b : Bool) → valid_engine e ≡ b → verdict (params_ok p) e ≡ cond b 0 3
  unfolding verdict
  found b h = rw (settings, h)

pub outside : (e : ModulationEngine) (p : ModulationParams) → (sample_rate_ok e.sample_rate && params_ok p) ≡ false
    → verdict (params_ok p) e ≡ 1
unfolding verdict
outside e p h = rw h
