-- What a call of the engine on its 15 words leaves: the refusal number, which it returns, 0 for none; the words,
-- unchanged if it is refused (D1c); and for a step also the offsets of the two sides. Definitions only.
use Rattle.std.specs.Prelude.{ℕ, List, Float}
use Rattle.modulation_params.specs.declared.ModulationParams.{ModulationParams}
use Rattle.modulation_engine.specs.declared.ModulationEngine.{ModulationEngine}
use Rattle.modulation_engine.specs.declared.Opened.{Opened}
use Rattle.modulation_engine.specs.Engine.{number_of}
use Rattle.modulation.specs.Step.{next_of}
use Rattle.modulation.specs.Step.{number_of as refusal_of}
use Rattle.modulation.specs.Runs.{left_by}
use Rattle.packed_engine.specs.Words.{engine_of, words_left}
use Rattle.engine_answer_parts.specs.Offsets.{left_of, right_of}

pub record Renewed : Type 0 where
  pub number : ℕ
  pub words : List ℕ

abbrev pub renews : ℕ → List ℕ → Renewed
renews number words = record { number = number; words = words }

-- The words after a change of the engine.
abbrev pub renewed_by : (ModulationEngine → Opened) → List ℕ → Renewed
renewed_by change words =
    let o = change (engine_of words) in
    renews (number_of o) (words_left (number_of o) (left_by o (engine_of words)) words)

pub record Stepped : Type 0 where
  pub number : ℕ
  pub words : List ℕ
  pub left : Float
  pub right : Float

abbrev pub steps : ℕ → List ℕ → Float → Float → Stepped
steps number words left right = record { number = number; words = words; left = left; right = right }

abbrev pub stepped_by : ModulationParams → List ℕ → Stepped
stepped_by params words =
    let n = next_of (engine_of words) params in
    let number = refusal_of n.offset in
    steps number (words_left number n.engine words) (left_of n.offset) (right_of n.offset)
