-- The delays of consecutive frames. The engine steps once for each frame. Definitions only.
use Rattle.std.specs.Prelude.{ℕ, zero, suc, List, Float}
use Rattle.std.specs.Float.{nan, binary64}
use Rattle.std.specs.Float.Ieee.{add}
use Rattle.loop_laws.specs.Loops.{list_of}
use Rattle.modulation.specs.Step.{next_of}
use Rattle.modulation_params.specs.declared.ModulationParams.{ModulationParams}
use Rattle.modulation_engine.specs.declared.ModulationEngine.{ModulationEngine}
use Rattle.modulation_sample.specs.declared.Offset.{Offset}
use Rattle.modulation_sample.specs.declared.Offset.TheVariants.{Delay, Refused}

-- The middle plus the offset of a channel. If the engine refuses its state or its settings there is no offset; the
-- delay is then a NaN, which every reader refuses by 5.
abbrev pub left_of : Float → Offset → Float
left_of middle (Delay d) = add binary64 middle d.left
left_of middle (Refused k) = nan

abbrev pub right_of : Float → Offset → Float
right_of middle (Delay d) = add binary64 middle d.right
right_of middle (Refused k) = nan

-- The engine after some frames.
unfoldable pub turned_by : ModulationParams → ModulationEngine → ℕ → ModulationEngine
turned_by params e zero = e
turned_by params e (suc n) = (next_of (turned_by params e n) params).engine

-- The offsets of frame k, and the delays of n frames.
abbrev pub offset_at : ModulationParams → ModulationEngine → ℕ → Offset
offset_at params e k = (next_of (turned_by params e k) params).offset

abbrev pub left_delays : ModulationParams → Float → ModulationEngine → ℕ → List Float
left_delays params middle e n = list_of (λ (k : ℕ). left_of middle (offset_at params e k)) n

abbrev pub right_delays : ModulationParams → Float → ModulationEngine → ℕ → List Float
right_delays params middle e n = list_of (λ (k : ℕ). right_of middle (offset_at params e k)) n
