-- G8, M2. What holds for an engine throughout a run: it is sound, and it has the sample rate and the seeds that were
-- set last. In a sound state only an argument can be refused. Assumes nothing.
use mathlib.Core.Path.{◌≡◌, refl, sym, ◌∙◌}
use mathlib.Core.Bool.{Bool, true, false, cond}
use mathlib.Core.List.{List, [], ◌∷◌}
use Prim.Native.Nat.{ℕ, ◌^◌, ◌<◌}
use borrow.Author.Tests.{eqb-true}
use denote.Floats.{passes}
use lib.Dec.{T, eqb}
use lib.Ieee.{Float}
use lib.Ieee.Bits.{is_true}
use Rattle.wrapping_u64.specs.Xor.{xor}
use Rattle.xorshift.specs.Seeds.{seed_of, flutter_seed_of}
use Rattle.smooth_random.specs.Drift as drift
use Rattle.smooth_random.specs.declared.SmoothRandom.{SmoothRandom}
use Rattle.smooth_random.proofs.ValidSeeds.{seed-twice}
use Rattle.smooth_random.proofs.LoopEnds.{next-kept}
use Rattle.oscillator_ranges.specs.Ranges.{sample_rate_ok}
use Rattle.modulation_params.specs.Settings.{params_ok}
use Rattle.modulation_engine.specs.Engine.{valid_engine, verdict, opened_by, fresh, rated}
use Rattle.modulation.specs.Step.{wow_pace, flutter_pace, next_by}
use Rattle.modulation.specs.Runs.{Call, step, rate, seed, again, left_by, after, run, rate_after, last_rate}
use Rattle.modulation.specs.Runs.{seed_after, last_seed, Word, Words}
use Rattle.modulation_engine.specs.declared.ModulationEngine.{ModulationEngine}
use Rattle.modulation_params.specs.declared.ModulationParams.{ModulationParams}
use Rattle.modulation.proofs.EngineInRange.{Sound, sound-valid, fresh-sound, rated-sound, seeded-sound}
use Rattle.modulation.proofs.EngineInRange.{restarted-sound, stepped-sound}

pub sound-verdict : {e : ModulationEngine} → Sound e → (arguments : Bool) → verdict arguments e ≡ cond arguments 0 1
unfolding verdict
sound-verdict {e} h true =
    rw (is_true (sample_rate_ok e.sample_rate) h.rate, is_true (valid_engine e) (sound-valid h))
sound-verdict {e} h false = rw (is_true (sample_rate_ok e.sample_rate) h.rate)

pub record Running (sample-rate : Float) (s : ℕ) (e : ModulationEngine) : Type 0 where
  pub sound : Sound e
  pub rated-at : e.sample_rate ≡ sample-rate
  pub wow-seed : e.wow_drift.initial_seed ≡ seed_of s
  pub flutter-seed : e.flutter_drift.initial_seed ≡ flutter_seed_of s

-- The seed that a generator has after a new one was set. A flutter seed is not 0, so that it is not replaced.
pub flutter-twice : (s : ℕ) → seed_of (flutter_seed_of s) ≡ flutter_seed_of s
flutter-twice s = seed-twice (xor s 0xD1B5_4A32_D192_ED03)

pub fresh-running : (sample-rate : Float) (s : ℕ) → T (sample_rate_ok sample-rate) → s < 2 ^ 64
    → Running sample-rate s (fresh sample-rate s)
unfolding drift.started
fresh-running sample-rate s r w =
    record { sound = fresh-sound sample-rate s r w; rated-at = refl; wow-seed = refl; flutter-seed = flutter-twice s }

set_to : (r : SmoothRandom) (s : ℕ) → (drift.set_seed_of r s).initial_seed ≡ seed_of s
unfolding drift.started
set_to r s = go (eqb (seed_of s) r.initial_seed) refl
  where
    go : (b : Bool) → eqb (seed_of s) r.initial_seed ≡ b → (cond b r (drift.new_of s)).initial_seed ≡ seed_of s
    go true h = sym (eqb-true (seed_of s) r.initial_seed h)
    go false h = refl

module _ {sample-rate : Float} {s : ℕ} {e : ModulationEngine} (h : Running sample-rate s e) where
  stepped-running : (p : ModulationParams) (b : Bool) → params_ok p ≡ b
      → Running sample-rate s (next_by (verdict b e) e p).engine
  stepped-running p true ok =
      rw (sound-verdict h.sound true)
      (record {
        sound = stepped-sound p (passes (params_ok p) ok) h.sound;
        rated-at = h.rated-at;
        wow-seed = (next-kept e.wow_drift (wow_pace p) e.sample_rate h.sound.wow.state).1 ∙ h.wow-seed;
        flutter-seed =
            (next-kept e.flutter_drift (flutter_pace p) e.sample_rate h.sound.flutter.state).1
            ∙ h.flutter-seed;
      })
  stepped-running p false ok = rw (sound-verdict h.sound false) h

  rated-running : (r : Float) (b : Bool) → sample_rate_ok r ≡ b
      → Running (cond b r sample-rate) s (left_by (opened_by (verdict b e) (rated e r)) e)
  rated-running r true ok =
      rw (sound-verdict h.sound
      true) (record {
        sound = rated-sound r (passes (sample_rate_ok r) ok) h.sound;
        rated-at = refl;
        wow-seed = h.wow-seed;
        flutter-seed = h.flutter-seed;
      })
  rated-running r false ok = rw (sound-verdict h.sound false) h

  pub after-running : (c : Call) → Word c → Running (rate_after sample-rate c) (seed_after s c) (after e c)
  unfolding drift.started
  after-running (step p) w = stepped-running p (params_ok p) refl
  after-running (rate r) w = rated-running r (sample_rate_ok r) refl
  after-running (seed t) w =
      rw (sound-verdict h.sound true)
      (record {
        sound = seeded-sound t w h.sound;
        rated-at = h.rated-at;
        wow-seed = set_to e.wow_drift t;
        flutter-seed = set_to e.flutter_drift (flutter_seed_of t) ∙ flutter-twice t;
      })
  after-running again w =
      rw (sound-verdict h.sound
      true) (record {
        sound = restarted-sound h.sound;
        rated-at = h.rated-at;
        wow-seed = h.wow-seed;
        flutter-seed = h.flutter-seed;
      })

pub running : (cs : List Call) {sample-rate : Float} {s : ℕ} {e : ModulationEngine} → Words cs → Running sample-rate s e
    → Running (last_rate sample-rate cs) (last_seed s cs) (run e cs)
unfolding run last_rate last_seed Words
running [] w h = h
running (c ∷ cs) w h = running cs w.1 (after-running h c w.0)
