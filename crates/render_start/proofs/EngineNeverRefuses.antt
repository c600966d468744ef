-- X2. The engine steps at every sample, even if that is refused, and from opening on it refuses nothing; so every
-- sample is read at the delay 512 plus the left offset. By the laws of `modulation` about runs of an engine. Assumes
-- nothing.
use mathlib.Core.Path.{◌≡◌, refl}
use mathlib.Core.Bool.{true, false}
use mathlib.Core.List.{List, [], ◌∷◌, map}
use Prim.Native.Nat.{ℕ}
use lib.Dec.{lit≤}
use lib.IntN.{pos}
use lib.Ieee.{Float, fin, binary64, add, le, neg, of_bits}
use Rattle.modulation_params.specs.Settings.{default_params, params_ok}
use Rattle.modulation_sample.specs.Sample.{offset_of}
use Rattle.modulation.specs.Runs.{step, run}
use Rattle.modulation.proofs.RunInvariant.{Running, sound-verdict, fresh-running, after-running}
use Rattle.render_samples.specs.Samples.{Held, held_of, delay_for, after_sample, after_samples}
use Rattle.render_start.specs.Start.{fresh}

-- This holds whatever the samples are.
pub engine-steps : (table : List Float) (h : Held) (xs : List Float)
    → (after_samples table h xs).state.engine ≡ run h.state.engine (map (λ x. step default_params) xs)
unfolding after_samples run
engine-steps table h [] = refl
engine-steps table h (x ∷ xs) = engine-steps table (after_sample table h x) xs

in-range : params_ok default_params ≡ true
unfolding params_ok le neg of_bits
in-range = refl

delay-is : {rate : Float} {s : ℕ} (h : Held) → Running rate s h.state.engine
    → delay_for h ≡ add binary64 (fin false 1 (pos 9)) (offset_of h.state.engine default_params).left
delay-is h r = rw (in-range, sound-verdict r.sound true)

still-running : (table : List Float) {rate : Float} {s : ℕ} (h : Held) (xs : List Float)
    → Running rate s h.state.engine → Running rate s (after_samples table h xs).state.engine
unfolding after_samples
still-running table h [] r = r
still-running table h (x ∷ xs) r =
    still-running table (after_sample table h x) xs (after-running r (step default_params) tt)

module _ (table ring xs : List Float) where
  abbrev pub reached : Held
  reached = after_samples table (held_of fresh ring) xs

  pub delay-from-opening : delay_for reached
      ≡ add binary64 (fin false 1 (pos 9)) (offset_of reached.state.engine default_params).left
  unfolding le of_bits
  delay-from-opening =
      delay-is reached (still-running table (held_of fresh ring) xs
      (fresh-running (fin false 375 (pos 7)) 1 tt (lit≤ tt)))
