-- The refusal numbers, 0 for none, of 001's engine and of its generator. Definitions only.
use Rattle.std.specs.Prelude.{ℕ, List, [], ◌∷◌, set, Float}
use Rattle.std.specs.Float.Ieee.{neg, lt, le, of_bits}
use Rattle.smooth_random.specs.Ranges as random
use Rattle.smooth_random.specs.Drift as drift
use Rattle.modulation_params.specs.declared.ModulationParams.{ModulationParams}
use Rattle.modulation_params.specs.Settings.{params_ok, default_params}
use Rattle.modulation_engine.specs.Engine.{phases_ok, valid_engine, verdict, set_sample_rate_of, set_seed_of, reset_of}
use Rattle.modulation_engine.specs.Engine as engine
use Rattle.modulation.specs.Step.{number_of, next_of}
use Rattle.packed_engine.specs.Words.{engine_of, random_of}

-- The engine's 15 words: 48000 Hz, both phases 0, and two generators, each with the seed and the state 1, the targets
-- and the position 0, and the scale 1.
abbrev pub words : List ℕ
words =
    0x40e7_7000_0000_0000 ∷ 0 ∷ 0 ∷ 1 ∷ 1 ∷ 0 ∷ 0 ∷ 0 ∷ 0x3ff0_0000_0000_0000
    ∷ 1 ∷ 1 ∷ 0 ∷ 0 ∷ 0 ∷ 0x3ff0_0000_0000_0000 ∷ []

-- The same with another value for one word, and for two.
abbrev pub with : ℕ → ℕ → List ℕ
with field word = set words field word

abbrev pub off : List ℕ
off = set (with 0 0) 1 0x4019_21fb_5444_2d18

-- A step, a new sample rate, a new seed and a reset of the engine with these words.
unfoldable pub stepped_by : List ℕ → ModulationParams → ℕ
unfolding verdict valid_engine phases_ok random.valid_of params_ok le lt neg of_bits
stepped_by ws p = number_of (next_of (engine_of ws) p).offset

abbrev pub stepped : ℕ → ℕ → ℕ
stepped field word = stepped_by (with field word) default_params

unfoldable pub rated : List ℕ → Float → ℕ
unfolding verdict valid_engine phases_ok random.valid_of le lt neg of_bits
rated ws sample-rate = engine.number_of (set_sample_rate_of (engine_of ws) sample-rate)

unfoldable pub seeded : List ℕ → ℕ
unfolding verdict valid_engine phases_ok random.valid_of le lt neg of_bits
seeded ws = engine.number_of (set_seed_of (engine_of ws) 1)

unfoldable pub restarted : List ℕ → ℕ
unfolding verdict valid_engine phases_ok random.valid_of le lt neg of_bits
restarted ws = engine.number_of (reset_of (engine_of ws))

-- A step of SmoothRandom alone, with an initial seed.
unfoldable pub drifted : ℕ → Float → Float → ℕ
unfolding random.verdict random.valid_of le lt neg of_bits
drifted seed rate-hz sample-rate =
    (drift.next_of (random_of seed 1 0 0 0 0x3ff0_0000_0000_0000) rate-hz sample-rate).refusal
