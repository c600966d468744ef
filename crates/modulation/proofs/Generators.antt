-- G8. What holds for a generator in range, including that its numbers are words of 64 digits: `Steady`. A seed gives
-- it, and reset, a new seed and a step keep it. Assumes nothing.
use mathlib.Core.Path.{sym, subst}
use mathlib.Core.Bool.{Bool, true, false, cond}
use Prim.Native.Nat.{ℕ, ◌^◌, ◌<◌}
use lib.Dec.{T, eqb}
use lib.Ieee.{Float}
use Rattle.wrapping_u64.proofs.Digitwise.{xor_below}
use Rattle.xorshift.specs.Seeds.{seed_of, flutter_seed_of}
use Rattle.smooth_random.specs.Ranges.{valid_of}
use Rattle.smooth_random.specs.Drift as drift
use Rattle.smooth_random.specs.declared.SmoothRandom.{SmoothRandom}
use Rattle.xorshift.proofs.Generator.{step-word}
use Rattle.smooth_random.proofs.ValidSeeds.{seed-word, new-valid, reset-valid}
use Rattle.smooth_random.proofs.LoopEnds.{next-valid, next-kept}

pub record Steady (r : SmoothRandom) : Type 0 where
  pub valid : T (valid_of r)
  pub state : r.state < 2 ^ 64
  pub seed : r.initial_seed < 2 ^ 64

pub new-steady : (seed : ℕ) → seed < 2 ^ 64 → Steady (drift.new_of seed)
unfolding drift.started
new-steady seed w = record { valid = new-valid seed w; state = step-word _; seed = seed-word seed w }

pub reset-steady : (r : SmoothRandom) → Steady r → Steady (drift.reset_of r)
unfolding drift.started
reset-steady r h = record { valid = reset-valid r h.seed h.valid; state = step-word _; seed = h.seed }

pub set-seed-steady : (r : SmoothRandom) (seed : ℕ) → seed < 2 ^ 64 → Steady r → Steady (drift.set_seed_of r seed)
set-seed-steady r seed w h = go (eqb (seed_of seed) r.initial_seed)
  where
    go : (b : Bool) → Steady (cond b r (drift.new_of seed))
    go true = h
    go false = new-steady seed w

pub next-steady : (r : SmoothRandom) (pace sample-rate : Float) → Steady r
    → Steady (drift.next_of r pace sample-rate).random
next-steady r pace sample-rate h =
    let kept = next-kept r pace sample-rate h.state in
    record {
      valid = next-valid r pace sample-rate h.state h.valid;
      state = kept.0;
      seed = subst (λ (s : ℕ). s < 2 ^ 64) (sym kept.1) h.seed;
    }

pub flutter-word : (seed : ℕ) → flutter_seed_of seed < 2 ^ 64
flutter-word seed = seed-word _ (xor_below 64 _ _)
