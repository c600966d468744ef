-- 001's engine as another language can hand it in: 15 words in the order of its fields, a float as its pattern, and the
-- settings as eight floats. Definitions only.
use Rattle.std.specs.Prelude.{ℕ, zero, suc, List, [], ◌∷◌, get_or, Float}
use Rattle.std.specs.Float.{binary64}
use Rattle.std.specs.Float.Ieee.{of_bits, to_bits}
use Rattle.smooth_random.specs.declared.SmoothRandom.{SmoothRandom}
use Rattle.modulation_params.specs.declared.ModulationParams.{ModulationParams}
use Rattle.modulation_engine.specs.declared.ModulationEngine.{ModulationEngine}

abbrev at : List ℕ → ℕ → ℕ
at words k = get_or words k 0

-- A generator from its six words.
abbrev pub random_of : ℕ → ℕ → ℕ → ℕ → ℕ → ℕ → SmoothRandom
random_of seed state current next position pace = record {
  initial_seed = seed;
  state = state;
  current = of_bits binary64 current;
  next = of_bits binary64 next;
  position = of_bits binary64 position;
  segment_rate_scale = of_bits binary64 pace;
}

abbrev pub engine_of : List ℕ → ModulationEngine
engine_of words = record {
  sample_rate = of_bits binary64 (at words 0);
  wow_phase = of_bits binary64 (at words 1);
  flutter_phase = of_bits binary64 (at words 2);
  wow_drift = random_of (at words 3) (at words 4) (at words 5) (at words 6) (at words 7) (at words 8);
  flutter_drift = random_of (at words 9) (at words 10) (at words 11) (at words 12) (at words 13) (at words 14);
}

abbrev pub random_words : SmoothRandom → List ℕ → List ℕ
random_words r rest =
    r.initial_seed ∷ r.state ∷ to_bits binary64 r.current ∷ to_bits binary64 r.next
    ∷ to_bits binary64 r.position ∷ to_bits binary64 r.segment_rate_scale ∷ rest

abbrev pub words_of : ModulationEngine → List ℕ
words_of e =
    to_bits binary64 e.sample_rate ∷ to_bits binary64 e.wow_phase ∷ to_bits binary64 e.flutter_phase
    ∷ random_words e.wow_drift (random_words e.flutter_drift [])

-- D1c. The words that a call leaves: those of the engine after it or, if refused, the very same words, even a NaN's own
-- pattern.
abbrev pub words_left : ℕ → ModulationEngine → List ℕ → List ℕ
words_left zero after words = words_of after
words_left (suc k) after words = words

-- F9. The eight settings, in 001's order.
abbrev pub params_of : Float → Float → Float → Float → Float → Float → Float → Float → ModulationParams
params_of wow-rate wow-depth wow-shape flutter-rate flutter-depth flutter-shape drift stereo = record {
  wow_rate_hz = wow-rate;
  wow_depth_cents = wow-depth;
  wow_shape = wow-shape;
  flutter_rate_hz = flutter-rate;
  flutter_depth_cents = flutter-depth;
  flutter_shape = flutter-shape;
  drift_amount = drift;
  stereo_amount = stereo;
}
