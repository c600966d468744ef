-- If the engine is not refused, both of its generators are in range, so that neither of them refuses, and each hands
-- back the new one. By the four tests of the engine. Assumes nothing.
use Prim.Native.Nat.{ℕ}
use mathlib.Core.Path.{◌≡◌, refl}
use mathlib.Core.Bool.{Bool, true, false, ◌&&◌, cond}
use Rattle.smooth_random.specs.Ranges.{valid_of}
use Rattle.smooth_random.specs.Drift.{renewed}
use Rattle.smooth_random.specs.declared.SmoothRandom.{SmoothRandom}
use Rattle.smooth_random.specs.declared.Renewed.{Renewed}
use Rattle.oscillator_ranges.specs.Ranges.{sample_rate_ok}
use Rattle.modulation_engine.specs.Engine.{phases_ok, valid_engine, verdict, opened_by}
use Rattle.modulation_engine.specs.declared.ModulationEngine.{ModulationEngine}

module _ (e : ModulationEngine) (with : SmoothRandom → SmoothRandom → ModulationEngine) (w f : SmoothRandom) where
  abbrev handed : Bool → SmoothRandom → SmoothRandom → Renewed
  handed b r after = cond b (record { random = after; refusal = 0 }) (record { random = r; refusal = 3 })

  pub both-renewed : opened_by (verdict true e)
      (with (renewed e.wow_drift w).random (renewed e.flutter_drift f).random)
      ≡ opened_by (verdict true e) (with w f)
  unfolding verdict valid_engine
  both-renewed =
      go (sample_rate_ok e.sample_rate && true) (phases_ok e) (valid_of e.wow_drift)
      (valid_of e.flutter_drift)
    where
      go : (s p a b : Bool) → let v : ℕ = cond s (cond (p && (a && b)) 0 3) 1 in
          opened_by v (with (handed a e.wow_drift w).random (handed b e.flutter_drift f).random)
          ≡ opened_by v (with w f)
      go true true true true = refl
      go true true true false = refl
      go true true false b = refl
      go true false a b = refl
      go false p a b = refl
