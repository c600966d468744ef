-- M1, M2, M5 over runs. From its opening on an engine is sound, whatever is called. Two engines that are opened alike
-- and called alike hand out the same offsets. Setting the seed that is held changes nothing. Setting 0 after
-- A0761D6478BD642F restarts only the flutter generator. A reset gives the state of opening. Assumes nothing.
use mathlib.Core.Path.{◌≡◌, sym, ap, ◌∙◌, subst}
use mathlib.Core.Bool.{true}
use mathlib.Core.List.{List}
use Prim.Native.Nat.{ℕ, ◌^◌, ◌<◌}
use lib.Dec.{T}
use lib.Ieee.{Float}
use Rattle.xorshift.specs.Seeds.{flutter_seed_of}
use Rattle.smooth_random.specs.Drift as drift
use Rattle.smooth_random.specs.declared.SmoothRandom.{SmoothRandom}
use Rattle.smooth_random.proofs.ValidSeeds.{set-held, set-zero, flutter-differs}
use Rattle.oscillator_ranges.specs.Ranges.{sample_rate_ok}
use Rattle.modulation_engine.specs.Engine.{opened_of, fresh, set_seed_of, reset_of}
use Rattle.modulation.specs.Runs.{Call, run, offsets, last_rate, last_seed, Words}
use Rattle.modulation_engine.specs.declared.ModulationEngine.{ModulationEngine}
use Rattle.modulation_engine.specs.declared.Opened.TheVariants.{Engine}
use Rattle.modulation.proofs.EngineInRange.{Sound}
use Rattle.modulation.proofs.RunInvariant.{Running, sound-verdict, flutter-twice, fresh-running, running}

module _ {sample-rate : Float} {s : ℕ} {e : ModulationEngine} (h : Running sample-rate s e) where
  sets-nothing : set_seed_of e s ≡ Engine e
  sets-nothing =
      rw (
        sound-verdict h.sound true,
        set-held e.wow_drift s (sym h.wow-seed),
        set-held e.flutter_drift (flutter_seed_of s) (flutter-twice s ∙ sym h.flutter-seed),
      )

  opens : reset_of e ≡ Engine (fresh sample-rate s)
  opens = rw (sound-verdict h.sound true, h.rated-at, h.wow-seed, h.flutter-seed, flutter-twice s)

-- The same engine with another flutter generator.
abbrev pub fluttering : ModulationEngine → SmoothRandom → ModulationEngine
fluttering e r = record {
  sample_rate = e.sample_rate;
  wow_phase = e.wow_phase;
  flutter_phase = e.flutter_phase;
  wow_drift = e.wow_drift;
  flutter_drift = r;
}

flutter-alone : {sample-rate : Float} {e : ModulationEngine} → Running sample-rate 0xA076_1D64_78BD_642F e
    → set_seed_of e 0 ≡ Engine (fluttering e (drift.new_of (flutter_seed_of 0)))
flutter-alone {e = e} h =
    rw (
      sound-verdict h.sound true,
      set-zero e.wow_drift h.wow-seed,
      flutter-twice 0,
      h.flutter-seed,
      flutter-differs,
    )

-- ---- over runs
pub same-offsets : (sample-rate : Float) (s : ℕ) (a b : ModulationEngine) → opened_of sample-rate s ≡ Engine a
    → opened_of sample-rate s ≡ Engine b → (cs : List Call) → offsets a cs ≡ offsets b cs
same-offsets sample-rate s a b p q cs = let same : a ≡ b = cc in ap (λ e. offsets e cs) same

module _ (sample-rate : Float) (s : ℕ) (cs : List Call) (ok : T (sample_rate_ok sample-rate)) (word : s < 2 ^ 64)
    (words : Words cs) where
  abbrev left : ModulationEngine
  left = run (fresh sample-rate s) cs

  all : Running (last_rate sample-rate cs) (last_seed s cs) left
  all = running cs words (fresh-running sample-rate s ok word)

  pub sound : Sound left
  sound = all.sound

  pub held-seed : set_seed_of left (last_seed s cs) ≡ Engine left
  held-seed = sets-nothing all

  pub zero-after : last_seed s cs ≡ 0xA076_1D64_78BD_642F
      → set_seed_of left 0 ≡ Engine (fluttering left (drift.new_of (flutter_seed_of 0)))
  zero-after h = flutter-alone (subst (λ (t : ℕ). Running (last_rate sample-rate cs) t left) h all)

  pub reset-opens : reset_of left ≡ Engine (fresh (last_rate sample-rate cs) (last_seed s cs))
  reset-opens = opens all
